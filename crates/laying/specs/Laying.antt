-- What is laid where what lay there is kept: u and v are what is kept, c and f the work buffer, before and after.
use Rattle.std.specs.Prelude.{ℕ, ◌+◌, ◌≤◌, min, ◌≡◌, List, length}
use Rattle.definition.specs.Bus.{Bytes}
use Rattle.requests.specs.declared.Request.{Request}
use Rattle.requests.specs.Request.{request_of}
use Rattle.ioctl.specs.declared.Copied.{Copied}
use Rattle.undo.specs.Undo.{Kept, kept_of, back_session, back_buf}

abbrev pub copied : ℕ → ℕ → Copied
copied offset n = record { offset = offset; count = n }

-- where a request's payload ends
abbrev pub request_end : Request → Bytes → Bytes → ℕ
request_end r first second = 28 + length (request_of r first second).payload

-- the work buffer c is kept up to index n, as far as it goes
pub record KeptTo (u v : List ℕ) (c : Bytes) (n : ℕ) : Type 0 where
  pub kept : Kept v
  pub to : min n 2048 ≤ kept_of v
  pub session : (s : List ℕ) → back_session v s ≡ back_session u s
  pub buf : back_buf v c ≡ back_buf u c

pub record LaidKept (u v : List ℕ) (c f : Bytes) : Type 0 where
  pub kept : Kept v
  pub session : (s : List ℕ) → back_session v s ≡ back_session u s
  pub buf : back_buf v f ≡ back_buf u c
