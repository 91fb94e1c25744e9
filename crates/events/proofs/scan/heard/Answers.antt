use mathlib.Core.Path.{◌∙◌, sym}
use borrow.Author.Tests.{lt-ltb, le-ltb}
use Rattle.definition.specs.Scan.{heard}
use Rattle.events.proofs.scan.heard.Goals as goal
use Rattle.events.proofs.scan.heard.Goals.{else-not-known-via-then-not-known+else-l-lt32, else-not-known-via-else-not-known}

pub returns-then-l-lt32 : goal.returns-then-l-lt32
unfolding heard
returns-then-l-lt32 c = rw (sym c.known.ensures ∙ c.if-not-known.true, lt-ltb _ 32 c.if-l-lt32.true)

pub returns-else-not-known : goal.returns-else-not-known
unfolding heard
returns-else-not-known c = elim c.else-not-known.branch [
  | else-not-known-via-then-not-known+else-l-lt32 w ↦ rw (sym c.known.ensures ∙ w.if-not-known.true, le-ltb _ 32 w.if-l-lt32.false)
  | else-not-known-via-else-not-known w ↦ rw (sym c.known.ensures ∙ w.if-not-known.false)
]
