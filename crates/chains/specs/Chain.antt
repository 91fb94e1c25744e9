-- What a list of exported calls hands back: a chain of results, each in the relation that its function's contract states.
-- `Post`, which Rattle makes of a function's `ensures`, is that relation: lifetimes, parameters, result, parameters at exit.
use Rattle.std.specs.Prelude.{List, [], ◌∷◌, ℕ, length}
use contract.Lifetimes.{Lfts}
use Rattle.std.specs.Borrow.{Bor, MutBor}
use Rattle.wlan.specs.declared.ScanList.{ScanList}
use Rattle.wlan.specs.declared.State.{State}
use Rattle.definition.specs.Prog.{World, world}
use Rattle.definition.specs.Calls.{Call}
use Rattle.definition.specs.Run.{End}
use Rattle.going.specs.declared.CallEnd.{CallEnd}
use Rattle.going.specs.Onward.{end_of}
use Rattle.definition.specs.History.{Given}
use Rattle.cyw43.proofs.calls.wifi_init.Reads as wifi-init
use Rattle.cyw43.proofs.calls.wifi_scan.Reads as wifi-scan
use Rattle.cyw43.proofs.calls.wifi_connect.Reads as wifi-connect
use Rattle.cyw43.proofs.calls.wifi_disconnect.Reads as wifi-disconnect
use Rattle.cyw43.proofs.calls.wifi_abort_connect.Reads as wifi-abort-connect
use Rattle.cyw43.proofs.calls.wifi_poll.Reads as wifi-poll
use Rattle.cyw43.proofs.frames.send_data.Reads as send-data
use Rattle.cyw43.proofs.frames.get_rx_buf.Reads as get-rx-buf
use Rattle.cyw43.proofs.ioctls.gpio_set.Reads as gpio-set
use Rattle.cyw43.proofs.ioctls.get_mac_addr.Reads as get-mac-addr
use Rattle.cyw43.proofs.ioctls.get_ioctl.Reads as get-ioctl
use Rattle.cyw43.proofs.ioctls.set_ioctl.Reads as set-ioctl
use Rattle.cyw43.proofs.ioctls.write_iovar.Reads as write-iovar
use Rattle.cyw43.proofs.ioctls.up.Reads as set-up

-- ---- one call

-- a lent slice; `now` of it is its list
abbrev pub Lent : Type 0
Lent = Bor (List ℕ)

-- one lent to be written
abbrev pub LentMut : Type 0
LentMut = MutBor (List ℕ)

-- what every call but take is handed beside its arguments
pub record Entry : Type 0 where
  pub st : State
  pub list : ScanList
  pub rec : Lent
  pub log : LentMut
  pub buf : LentMut

-- what it leaves
pub record Exit : Type 0 where
  pub result : CallEnd
  pub log : LentMut
  pub buf : LentMut

-- its last five parameters at entry, and at exit
abbrev pub ins : Entry → State × (ScanList × (Lent × (LentMut × (LentMut × Unit {0}))))
ins x = (x.st, (x.list, (x.rec, (x.log, (x.buf, tt)))))

abbrev pub outs : Entry → Exit → State × (ScanList × (Lent × (LentMut × (LentMut × Unit {0}))))
outs x y = (x.st, (x.list, (x.rec, (y.log, (y.buf, tt)))))

abbrev pub given : Call → Entry → Given
given c x = record { call = c; recording = x.rec.now; log = x.log.now; output = [] }

abbrev pub before : Entry → World
before x = world x.st x.buf.now x.list

abbrev pub after : Exit → End
after y = end_of y.result y.log.now y.buf.now []

-- take has neither recording nor log
abbrev pub taking : LentMut → Given
taking out = record { call = Call.get_rx_buf (length out.now); recording = []; log = []; output = out.now }

-- an exported function, called with what is given in a world, has left an end: its own contract says so
pub data Ran : Given → World → End → Type 0 where
  wifi_init : (κs : Lfts 3) (country : ℕ) (x : Entry) (y : Exit)
      → wifi-init.Post κs (country, ins x) y.result (country, outs x y) → Ran (given (Call.wifi_init country) x) (before x) (after y)
  wifi_scan : (κs : Lfts 3) (x : Entry) (y : Exit)
      → wifi-scan.Post κs (ins x) y.result (outs x y) → Ran (given Call.wifi_scan x) (before x) (after y)
  wifi_connect : (κs : Lfts 5) (auth : ℕ) (ssid passphrase : Lent) (x : Entry) (y : Exit)
      → wifi-connect.Post κs (auth, (ssid, (passphrase, ins x))) y.result (auth, (ssid, (passphrase, outs x y)))
      → Ran (given (Call.wifi_connect auth ssid.now passphrase.now) x) (before x) (after y)
  wifi_disconnect : (κs : Lfts 3) (x : Entry) (y : Exit)
      → wifi-disconnect.Post κs (ins x) y.result (outs x y) → Ran (given Call.wifi_disconnect x) (before x) (after y)
  wifi_abort_connect : (κs : Lfts 3) (x : Entry) (y : Exit)
      → wifi-abort-connect.Post κs (ins x) y.result (outs x y) → Ran (given Call.wifi_abort_connect x) (before x) (after y)
  wifi_poll : (κs : Lfts 3) (x : Entry) (y : Exit)
      → wifi-poll.Post κs (ins x) y.result (outs x y) → Ran (given Call.wifi_poll x) (before x) (after y)
  send_data : (κs : Lfts 4) (interface : ℕ) (frame : Lent) (x : Entry) (y : Exit)
      → send-data.Post κs (interface, (frame, ins x)) y.result (interface, (frame, outs x y))
      → Ran (given (Call.send_data interface frame.now) x) (before x) (after y)
  get_rx_buf : (κs : Lfts 2) (st : State) (list : ScanList) (buf : Lent) (out out' : LentMut) (r : CallEnd)
      → get-rx-buf.Post κs (st, (list, (buf, (out, tt)))) r (st, (list, (buf, (out', tt))))
      → Ran (taking out) (world st buf.now list) (end_of r [] buf.now out'.now)
  gpio_set : (κs : Lfts 3) (pin level : ℕ) (x : Entry) (y : Exit)
      → gpio-set.Post κs (pin, (level, ins x)) y.result (pin, (level, outs x y))
      → Ran (given (Call.gpio_set pin level) x) (before x) (after y)
  get_mac_addr : (κs : Lfts 3) (x : Entry) (y : Exit)
      → get-mac-addr.Post κs (ins x) y.result (outs x y) → Ran (given Call.get_mac_addr x) (before x) (after y)
  get_ioctl : (κs : Lfts 3) (cmd interface : ℕ) (x : Entry) (y : Exit)
      → get-ioctl.Post κs (cmd, (interface, ins x)) y.result (cmd, (interface, outs x y))
      → Ran (given (Call.get_ioctl cmd interface) x) (before x) (after y)
  set_ioctl : (κs : Lfts 3) (cmd value interface : ℕ) (x : Entry) (y : Exit)
      → set-ioctl.Post κs (cmd, (value, (interface, ins x))) y.result (cmd, (value, (interface, outs x y)))
      → Ran (given (Call.set_ioctl cmd value interface) x) (before x) (after y)
  write_iovar : (κs : Lfts 5) (interface : ℕ) (name bytes : Lent) (x : Entry) (y : Exit)
      → write-iovar.Post κs (interface, (name, (bytes, ins x))) y.result (interface, (name, (bytes, outs x y)))
      → Ran (given (Call.write_iovar interface name.now bytes.now) x) (before x) (after y)
  up : (κs : Lfts 3) (x : Entry) (y : Exit) → set-up.Post κs (ins x) y.result (outs x y) → Ran (given Call.up x) (before x) (after y)

-- ---- a run

-- state, work buffer and scan list are handed on from each call to the next
pub data Chain : List Given → World → Type 0 where
  none : {w : World} → Chain [] w
  more : {g : Given} {gs : List Given} {w : World} {e : End} → Ran g w e → Chain gs (world e.st e.buf e.list) → Chain (g ∷ gs) w
