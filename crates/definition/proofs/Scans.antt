-- What a scan's statuses do: a session that the checker computes from the definition, and laws of every such event.
use mathlib.Core.Path.{◌≡◌, refl, ap}
use mathlib.Core.Bool.{Bool, false}
use mathlib.Core.List.{List, [], ◌∷◌, ◌++◌}
use Prim.Native.Nat.{ℕ, ◌+◌, ◌*◌}
use lib.Dec.{eqb}
use lib.ListN.{take, replicate}
use Rattle.slices.specs.Le.{le32}
use Rattle.slices.specs.Pick.{pick}
use Rattle.wlan.specs.Outcome.{refusal_of}
use Rattle.wlan.specs.State.{fresh, with_scan}
use Rattle.wlan.specs.declared.AsyncEvent.{AsyncEvent}
use Rattle.wlan.specs.declared.ScanMarks.{ScanMarks}
use Rattle.wlan.specs.declared.Success.{Success}
use Rattle.definition.specs.Bus.{Bytes}
use Rattle.definition.specs.Prog.{World, world, with_state, ◌>>◌}
use Rattle.definition.specs.Event.{scan_end, scan_after, link_after, list_after, after}
use Rattle.definition.specs.Request.{escan}
use Rattle.definition.specs.Ioctl.{exchange}
use Rattle.definition.specs.Poll.{giving}
use Rattle.definition.specs.Calls.{Call, scan, scanning}
use Rattle.definition.specs.History.{Given, end_of, next}
use Rattle.definition.specs.Player.{empty_list}
use Rattle.definition.specs.Open.{opened}
use Rattle.definition.proofs.Recordings.{given, packet_of, interrupted, status, clock, coming, sent}

-- ---- calls

-- a scan whose request, of id n, is answered
abbrev scans : ℕ → Given
scans n =
    given Call.wifi_scan (sent ++ (clock 0 ++ (clock 0 ++ (interrupted ++ coming (packet_of 28 0 12 0 9 (le32 0 ++ (le32 0 ++ (le32 (n * 65536) ++ le32 0))))))))

-- the first n bytes of an event with 48: ESCAN_RESULT, its status in four bytes
abbrev result : ℕ → Bytes → List ℕ
result n s = coming (packet_of (12 + n) 1 12 0 9 (take n (replicate 36 0 ++ (0 ∷ 0 ∷ 0 ∷ 69 ∷ (s ++ replicate 4 0)))))

-- a poll that hears it; only after a scan the good-packet mark is set, and no interrupt is read
abbrev hears : List ℕ → Bytes → Given
hears before s = given Call.wifi_poll (before ++ (result 48 s ++ status 0))

-- a status' four bytes, of which all count: high 1 is not 0, and high 8 not 8
abbrev low : ℕ → Bytes
low n = 0 ∷ 0 ∷ 0 ∷ n ∷ []

abbrev high : ℕ → Bytes
high n = n ∷ 0 ∷ 0 ∷ 0 ∷ []

-- ---- what is computed of them

abbrev bit : Bool → ℕ
bit b = pick b 1 0

-- after a call: its refusal and log words; the done and the progress mark; how many networks are known
abbrev row : Given → World → List ℕ
row g w =
    let e = end_of g w in
    refusal_of e.outcome ∷ e.len ∷ bit e.st.scan.scan_done ∷ bit e.st.scan.scan_in_progress ∷ e.list.count ∷ []

unfoldable rows : List Given → World → List (List ℕ)
rows [] w = []
rows (g ∷ gs) w = row g w ∷ rows gs (next g w)

session : List Given
session =
    -- a network is heard, and the scan fails: the network stays, and no scan is done
    scans 1
    ∷ hears [] (low 8)
    ∷ hears interrupted (low 1)
    -- another scan starts, and has its operations; one while it is in progress has none
    ∷ scans 2
    ∷ given Call.wifi_scan []
    -- it is done; a status that comes later leaves that
    ∷ hears [] (low 0)
    ∷ hears interrupted (low 4)
    -- 47 bytes of such an event change nothing, nor does one in a poll that is rolled back
    ∷ scans 3
    ∷ given Call.wifi_poll (result 47 (low 1) ++ status 0)
    ∷ given Call.wifi_poll (interrupted ++ result 48 (low 1))
    ∷ hears interrupted (high 1)
    ∷ scans 4
    ∷ hears [] (high 8)
    ∷ []

scan-session : rows session (world fresh (replicate 2048 0) empty_list) ≡ (0 ∷ 36 ∷ 0 ∷ 1 ∷ 0 ∷ [])
    ∷ (0 ∷ 3 ∷ 0 ∷ 1 ∷ 1 ∷ [])
    ∷ (0 ∷ 5 ∷ 0 ∷ 0 ∷ 1 ∷ [])
    ∷ (0 ∷ 36 ∷ 0 ∷ 1 ∷ 0 ∷ [])
    ∷ (0 ∷ 0 ∷ 0 ∷ 1 ∷ 0 ∷ [])
    ∷ (0 ∷ 3 ∷ 1 ∷ 0 ∷ 0 ∷ [])
    ∷ (0 ∷ 5 ∷ 1 ∷ 0 ∷ 0 ∷ [])
    ∷ (0 ∷ 36 ∷ 0 ∷ 1 ∷ 0 ∷ [])
    ∷ (0 ∷ 3 ∷ 0 ∷ 1 ∷ 0 ∷ [])
    ∷ (8 ∷ 5 ∷ 0 ∷ 1 ∷ 0 ∷ [])
    ∷ (0 ∷ 5 ∷ 0 ∷ 0 ∷ 0 ∷ [])
    ∷ (0 ∷ 36 ∷ 0 ∷ 1 ∷ 0 ∷ [])
    ∷ (0 ∷ 3 ∷ 0 ∷ 0 ∷ 0 ∷ [])
    ∷ []
unfolding session rows opened
scan-session = refl

-- ---- laws, of a status s other than 0 and 8

abbrev pub ended : ScanMarks → ScanMarks
ended m = record { scan_done = m.scan_done; scan_in_progress = false }

module _ (s : ℕ) (not-0 : eqb s 0 ≡ false) (not-8 : eqb s 8 ≡ false) where
  -- 'it clears the progress mark and leaves the done mark as it was'
  pub scan-over : (m : ScanMarks) → scan_end s m ≡ ended m
  unfolding scan_end
  scan-over m = rw (not-0, not-8)

-- an event with such a status
module _ (e : AsyncEvent) (is-69 : e.event_type ≡ 69) (not-0 : eqb e.status 0 ≡ false) (not-8 : eqb e.status 8 ≡ false) (w : World) where
  -- connection, scan list, work buffer and all else of the state stay
  pub all-else : after e w ≡ with_state w (with_scan w.st (ended w.st.scan))
  unfolding scan_after link_after list_after
  all-else = rw (is-69, not-8, scan-over e.status not-0 not-8 w.st.scan)

  -- 'so another scan may start'
  pub may-start : scan (after e w) ≡ (exchange escan >> (λ v. giving Success.Done (scanning v))) (after e w)
  unfolding scan
  may-start = rw (ap (λ (x : World). x.st.scan.scan_in_progress) all-else)
