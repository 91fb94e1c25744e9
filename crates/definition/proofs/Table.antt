-- The starred cases of 'Both banks of each limit', the worked example, and cases where a reading is easily wrong. The checker
-- computes every row from the definition.
use mathlib.Core.Path.{◌≡◌, refl}
use mathlib.Core.Bool.{Bool, true, false}
use mathlib.Core.List.{List, [], ◌∷◌, ◌++◌, map}
use Prim.Native.Nat.{ℕ, zero, suc, ◌+◌, ◌*◌}
use lib.IntN.{pos, negsuc}
use lib.ListN.{length, take, replicate}
use Rattle.slices.specs.Le.{le32, round4}
use Rattle.wlan.specs.State.{fresh, with_sdpcm, with_pending, with_scan, with_link, sdpcm_of, set_frame, link_of}
use Rattle.wlan.specs.declared.WifiState.{WifiState}
use Rattle.wlan.specs.declared.WifiAuth.{WifiAuth}
use Rattle.wlan.specs.declared.ScanList.{ScanList}
use Rattle.wlan.specs.declared.Interface.{Interface}
use Rattle.wlan.specs.declared.SdpcmPacket.{SdpcmPacket}
use Rattle.wlan.specs.declared.RxPacket.{RxPacket}
use Rattle.wlan.specs.declared.Sdpcm.{Sdpcm}
use Rattle.wlan.specs.declared.State.{State}
use Rattle.definition.specs.Bus.{Bytes}
use Rattle.definition.specs.Prog.{World, world}
use Rattle.definition.specs.Packet.{process_rx}
use Rattle.definition.specs.Calls.{Call}
use Rattle.definition.specs.Run.{End, called}
use Rattle.definition.specs.Player.{Line, line, bad_line, numbers, empty_list, play}
use Rattle.definition.specs.Open.{opened}
use Rattle.definition.proofs.Recordings.{packet_of, interrupt, status, came, clock, tick, done, fault, waiting}
use Rattle.std.specs.Prelude.{Option, Some, None, Ok, Err}
use Rattle.wlan.specs.declared.PendingIoctlResp.{PendingIoctlResp}
use Rattle.wlan.specs.declared.PendingBuf.{PendingBuf}
use Rattle.wlan.specs.Results.{Received}
use Rattle.wlan.specs.declared.RxError.{RxError}

-- ---- what a row is, and what it shows

pub data Case : Type 0 where
  -- a packet is read
  reading : Sdpcm → Bytes → Case
  -- a call, on a recording and with a log of so many words
  calling : Call → World → List ℕ → ℕ → Case
  -- the same with a log of 1,024 words, of which only the numbers and how many networks are shown
  limiting : Call → World → List ℕ → Case
  -- the player
  playing : List ℕ → Case

pub data Shown : Type 0 where
  -- flow, credit, and what it is
  packet : ℕ → ℕ → Received → Shown
  -- refusal, value, state, sequence, credit, flow, id, log words; the good-packet mark, what waits, how many networks; the work
  -- buffer's first byte; the log
  call : List ℕ → Bool → Option PendingIoctlResp → Option PendingBuf → ℕ → ℕ → List ℕ → Shown
  limit : List ℕ → ℕ → Shown
  lines : List Line → Shown

abbrev packet_shown : RxPacket → Shown
packet_shown r = packet r.sdpcm.wlan_flow_control r.sdpcm.last_bus_data_credit r.received

abbrev call_shown : End → Shown
call_shown e =
    call (numbers e) e.st.sdpcm.had_successful_packet e.st.pending.ioctl_resp e.st.pending.rx e.list.count
    (lib.ListN.get_or e.buf 0 0) (take e.len e.log)

abbrev limit_shown : End → Shown
limit_shown e = limit (numbers e) e.list.count

abbrev row : Case → Shown
row (reading s b) = packet_shown (process_rx (length b) b s)
row (calling c w recording room) = call_shown (called c w recording (replicate room 0) [])
row (limiting c w recording) = limit_shown (called c w recording (replicate 1024 0) [])
row (playing ws) = lines (play ws)

-- ---- packets

-- an ioctl header with a flags word and a status
abbrev control : ℕ → ℕ → Bytes
control flags status = le32 0 ++ (le32 0 ++ (le32 flags ++ le32 status))

-- an event's first 16 bytes, 32 into its payload
abbrev event_of : ℕ → ℕ → Bytes
event_of type status = replicate 36 0 ++ (0 ∷ 0 ∷ 0 ∷ type ∷ 0 ∷ 0 ∷ 0 ∷ status ∷ 0 ∷ 0 ∷ 0 ∷ 0 ∷ [])

-- ---- worlds

abbrev sdpcm : ℕ → ℕ → Bool → Sdpcm
sdpcm seq credit mark = sdpcm_of seq credit 0 0 mark

abbrev from : State → World
from s = world s (replicate 2048 9) empty_list

-- sequence 0, credit 1, and the mark
abbrev marked : Bool → World
marked mark = from (with_sdpcm fresh (sdpcm 0 1 mark))

-- sequence and credit both 5, so that a send stalls; the mark is set
abbrev stalling : World
stalling = from (with_sdpcm fresh (sdpcm 5 5 true))

abbrev heard_one : World
heard_one = world (with_sdpcm fresh (sdpcm 0 1 true)) (replicate 2048 9) (record { records = empty_list.records; count = 1 })

abbrev leaving : ℕ → World
leaving t = from (with_link fresh (link_of WifiState.Disconnecting None WifiAuth.Open (Some t)))

abbrev holding : ℕ → World
holding n = from (with_pending fresh (set_frame fresh.pending (Some (record { offset = 16; len = n }))))

-- ---- whole exchanges, the mark set: F2 is ready, the write is done, the clock is read twice, and a reply to id n comes
abbrev exchanged : ℕ → List ℕ
exchanged n = status 32 ++ (done ++ (clock 0 ++ (clock 0 ++ (waiting 28 ++ came (packet_of 28 0 12 0 (n + 1) (control (n * 65536) 0))))))

-- exchanges n .. n + k - 1, then the rest
unfoldable pub exchanges : ℕ → ℕ → List ℕ → List ℕ
exchanges n zero rest = rest
exchanges n (suc k) rest = exchanged n ++ exchanges (n + 1) k rest

-- ---- the rows

abbrev none : Received
none = Ok SdpcmPacket.None

abbrev quiet : List ℕ → Bool → List ℕ → Shown
quiet ns mark log = call ns mark None None 0 9 log

abbrev at250 : ℕ → Case
at250 credit = reading (sdpcm 0 250 true) (packet_of 12 0 12 7 credit [])

abbrev reads : ℕ → ℕ → ℕ → Bytes → Case
reads size channel h payload = reading (sdpcm 0 1 true) (packet_of size channel h 0 3 payload)

pub cases : List Case
cases =
    -- * last credit 250: 14 stored, 15 not, 249 not
    at250 14
    ∷ at250 15
    ∷ at250 249
    -- * channel 2, h 12, data offset 0: size 16 None though credit is stored; 17 gives offset 16, length 1; h 14, size 17 None
    ∷ reads 16 2 12 (0 ∷ 0 ∷ 0 ∷ 0 ∷ [])
    ∷ reads 17 2 12 (0 ∷ 0 ∷ 0 ∷ 0 ∷ 1 ∷ [])
    ∷ reads 17 2 14 (0 ∷ 0 ∷ 0 ∷ 0 ∷ 0 ∷ [])
    -- * channel 0, h 12: 27 None, 28 length 0
    ∷ reads 27 0 12 (control 0 0)
    ∷ reads 28 0 12 (control 0 0)
    -- * event h 12 size 12 length 0; h 13 is beyond
    ∷ reads 12 1 12 []
    ∷ reads 12 1 13 []
    -- * status 0x000C0100 reads 1,536; 0x000C0300 writes frame control
    ∷ calling Call.wifi_poll (marked true) (status 0x000C0100) 9
    ∷ calling Call.wifi_poll (marked true) (status 0x000C0300 ++ done) 9
    -- * the worked example
    ∷ playing
    (0xF000000E
    ∷ 0
    ∷ 0x16
    ∷ 0x20000000
    ∷ 0x20
    ∷ 0x60000000
    ∷ 0x40000000
    ∷ 0
    ∷ 0
    ∷ 0x40000000
    ∷ 0
    ∷ 0
    ∷ 0x10000020
    ∷ 0x60000000
    ∷ 0x20000000
    ∷ 0x3900
    ∷ 0x3000001C
    ∷ 0
    ∷ 0xFFE3001C
    ∷ 0x0C000000
    ∷ 0x200
    ∷ 2
    ∷ 0
    ∷ 0x10002
    ∷ 0
    ∷ [])
    -- a status of -1, another id, and an interface above 2
    ∷ reads 28 0 12 (control 0 0xffffffff)
    ∷ reads 28 0 12 (control 65536 0)
    ∷ reads 20 2 12 (0 ∷ 0 ∷ 3 ∷ 0 ∷ 1 ∷ 2 ∷ 3 ∷ 4 ∷ [])
    -- a declared size above what came: the length is the declared one
    ∷ calling Call.wifi_poll (marked true) (waiting 20 ++ came (packet_of 60 2 12 0 1 (replicate 8 0))) 9
    -- poll stores a reply to id 0 and ends with None; up then takes it, with no clock
    ∷ calling Call.wifi_poll (marked true) (waiting 28 ++ (came (packet_of 28 0 12 0 2 (control 0 0)) ++ status 0)) 9
    ∷ playing (0xF0000006 ∷ 0 ∷ 15 ∷ (interrupt 32 ++ (done ++ (waiting 28 ++ (came (packet_of 28 0 12 0 2 (control 0 0)) ++ (status 0 ++ (0xF000000E ∷ 0 ∷ 3 ∷ (status 32 ++ done))))))))
    -- a Control in a stall brings credit: polling goes on before the test
    ∷ calling Call.up stalling (clock 0 ++ (waiting 28 ++ (came (packet_of 28 0 12 0 6 (control 65536 0)) ++ (status 32 ++ (status 32 ++ done))))) 40
    -- a frame of 5 bytes that a stall receives lands over the request
    ∷ calling (Call.send_data 0 (1 ∷ 2 ∷ 3 ∷ 4 ∷ [])) stalling (clock 0 ++ (waiting 22 ++ (came (packet_of 22 2 12 0 6 (0 ∷ 0 ∷ 0 ∷ 0 ∷ 51 ∷ 52 ∷ 53 ∷ 54 ∷ 55 ∷ 56 ∷ [])) ++ (status 32 ++ done)))) 40
    -- a stall of 1,000,000 µs goes on, one more is refused 2
    ∷ calling Call.up stalling (clock 0 ++ (status 0 ++ clock 1000000)) 40
    ∷ calling Call.up stalling (clock 0 ++ (status 0 ++ clock 1000001)) 40
    -- 10 in join's last request leaves Connecting; 2 there leaves Down
    ∷ limiting (Call.wifi_connect 0 (65 ∷ []) []) (marked true) (exchanges 1 9 (status 32 ++ (done ++ (clock 0 ++ (clock 0 ++ (waiting 12 ++ came (packet_of 12 1 13 0 11 [])))))))
    ∷ limiting (Call.wifi_connect 0 (65 ∷ []) []) (marked true) (exchanges 1 9 (status 32 ++ (done ++ (clock 0 ++ clock 500000))))
    -- a scan whose request is refused 3 keeps the list; one that is answered clears it
    ∷ limiting Call.wifi_scan heard_one (status 32 ++ (done ++ (clock 0 ++ (clock 0 ++ (waiting 28 ++ came (packet_of 28 0 12 0 2 (control 65536 1)))))))
    ∷ limiting Call.wifi_scan heard_one (exchanges 1 1 [])
    ∷ calling Call.wifi_scan (from (with_scan fresh (record { scan_done = false; scan_in_progress = true }))) [] 0
    -- an event of 47 bytes is ignored, one of 48 read: SET_SSID, status 0
    ∷ calling Call.wifi_poll (marked true) (waiting 59 ++ (came (packet_of 59 1 12 0 1 (replicate 47 0)) ++ status 0)) 9
    ∷ calling Call.wifi_poll (marked true) (waiting 60 ++ (came (packet_of 60 1 12 0 1 (event_of 0 0)) ++ status 0)) 9
    -- a disconnect of 999 ticks stays, of 1,000 is Down
    ∷ calling Call.wifi_poll (leaving 1) (interrupt 0 ++ tick 1000) 9
    ∷ calling Call.wifi_poll (leaving 1) (interrupt 0 ++ tick 1001) 9
    -- roll-back: a write is logged, its answer is missing; the id, the sequence and the buffer are as at entry
    ∷ calling Call.up (marked true) (status 32) 40
    -- 12 before 8: logs of 0 words and of 1; a write of 8 words that has room for 7
    ∷ calling Call.wifi_poll (marked false) [] 0
    ∷ calling Call.wifi_poll (marked false) (interrupt 1) 1
    ∷ calling Call.up (marked true) (status 32 ++ done) 8
    -- 8 is judged by the answer's own head, before 9; a place of 10 is a bad bit; a clock has no fault
    ∷ calling Call.wifi_poll (marked false) (0x40000000 ∷ 0 ∷ []) 9
    ∷ calling Call.wifi_poll (marked false) (0x40000000 ∷ 0 ∷ 0 ∷ []) 9
    ∷ calling Call.wifi_poll (marked false) (fault 10) 9
    ∷ calling Call.wifi_poll (marked false) (fault 9) 9
    ∷ calling Call.up stalling (fault 4) 9
    -- a faulted read leaves the command word
    ∷ calling Call.wifi_poll (marked true) (waiting 5 ++ fault 4) 9
    -- take: no frame; 60 bytes into 59, the frame dropped
    ∷ calling (Call.get_rx_buf 100) (marked false) [] 0
    ∷ calling (Call.get_rx_buf 59) (holding 60) [] 0
    -- 4 before the passphrase, bad arguments before 4
    ∷ calling (Call.wifi_connect 2 [] (replicate 65 0)) (leaving 0) [] 0
    ∷ calling (Call.wifi_connect 6 [] []) (leaving 0) [] 0
    -- frames of 2,022 bytes are sent, of 2,023 refused 1 with the sequence spent, of 2,031 nothing is spent; variables likewise
    ∷ limiting (Call.send_data 0 (replicate 2022 0)) (marked true) (status 32 ++ done)
    ∷ limiting (Call.send_data 0 (replicate 2023 0)) (marked true) []
    ∷ limiting (Call.send_data 0 (replicate 2030 0)) (marked true) []
    ∷ limiting (Call.send_data 0 (replicate 2031 0)) (marked true) []
    ∷ limiting (Call.write_iovar 0 (replicate 2011 1) []) (marked true) (status 32 ++ (done ++ (clock 0 ++ clock 500000)))
    ∷ limiting (Call.write_iovar 0 (replicate 2012 1) []) (marked true) []
    ∷ limiting (Call.write_iovar 0 (replicate 2020 1) []) (marked true) []
    ∷ []

pub results : List Shown
results =
    packet 7 14 none
    ∷ packet 7 250 none
    ∷ packet 7 250 none
    ∷ packet 0 3 none
    ∷ packet 0 3 (Ok (SdpcmPacket.Data 16 1 Interface.Sta))
    ∷ packet 0 3 none
    ∷ packet 0 3 none
    ∷ packet 0 3 (Ok (SdpcmPacket.Control 28 0 (pos 0)))
    ∷ packet 0 3 (Ok (SdpcmPacket.AsyncEvent 12 0))
    ∷ packet 0 3 (Err RxError.HeaderBeyond)
    ∷ quiet (8 ∷ 0 ∷ 0 ∷ 0 ∷ 1 ∷ 0 ∷ 0 ∷ 2 ∷ []) true (0x20000000 ∷ 0x30000600 ∷ [])
    ∷ quiet (0 ∷ 0 ∷ 0 ∷ 0 ∷ 1 ∷ 0 ∷ 0 ∷ 2 ∷ []) false (0x20000000 ∷ 0x90000001 ∷ [])
    ∷ lines
    (line (14 ∷ 0 ∷ 0 ∷ 0 ∷ 1 ∷ 2 ∷ 0 ∷ 1 ∷ 15 ∷ [])
    (0x20000000
    ∷ 0x6000001c
    ∷ 0xffe3001c
    ∷ 0x0c000000
    ∷ 0x00000000
    ∷ 0x00000002
    ∷ 0x00000000
    ∷ 0x00010002
    ∷ 0x00000000
    ∷ 0x40000000
    ∷ 0x40000000
    ∷ 0x10000000
    ∷ 0x80000020
    ∷ 0x20000000
    ∷ 0x3000001c
    ∷ [])
    ∷ [])
    ∷ packet 0 3 (Ok (SdpcmPacket.Control 28 0 (negsuc 0)))
    ∷ packet 0 3 none
    ∷ packet 0 3 (Ok (SdpcmPacket.Data 16 4 Interface.Sta))
    ∷ call (0 ∷ 1 ∷ 0 ∷ 0 ∷ 1 ∷ 0 ∷ 0 ∷ 2 ∷ []) true None (Some (record { offset = 16; len = 44 })) 0 60 (0x20000000 ∷ 0x30000014 ∷ [])
    ∷ call (0 ∷ 0 ∷ 0 ∷ 0 ∷ 2 ∷ 0 ∷ 0 ∷ 3 ∷ []) false (Some (record { buf = record { offset = 28; len = 0 }; status = pos 0 })) None 0 28
    (0x20000000 ∷ 0x3000001c ∷ 0x20000000 ∷ [])
    ∷ lines
    (line (6 ∷ 0 ∷ 0 ∷ 0 ∷ 0 ∷ 2 ∷ 0 ∷ 0 ∷ 5 ∷ []) (0x10000000 ∷ 0x80000020 ∷ 0x20000000 ∷ 0x3000001c ∷ 0x20000000 ∷ [])
    ∷ line (14 ∷ 0 ∷ 0 ∷ 0 ∷ 1 ∷ 2 ∷ 0 ∷ 1 ∷ 9 ∷ []) (0x20000000 ∷ 0x6000001c ∷ 0xffe3001c ∷ 0x0c000000 ∷ 0 ∷ 2 ∷ 0 ∷ 0x00010002 ∷ 0 ∷ [])
    ∷ [])
    ∷ call (0 ∷ 0 ∷ 0 ∷ 6 ∷ 6 ∷ 0 ∷ 1 ∷ 13 ∷ []) false None None 0 28 (0x40000000 ∷ 0x20000000 ∷ 0x3000001c ∷ 0x20000000 ∷ 0x20000000 ∷ 0x6000001c ∷ 0xffe3001c ∷ 0xc000005 ∷ 0 ∷ 0 ∷ 0 ∷ 0x10000 ∷ 0 ∷ [])
    ∷ call (0 ∷ 0 ∷ 0 ∷ 6 ∷ 6 ∷ 0 ∷ 0 ∷ 11 ∷ []) true None None 0 22 (0x40000000 ∷ 0x20000000 ∷ 0x30000016 ∷ 0x20000000 ∷ 0x60000018 ∷ 0xffe90016 ∷ 0xe000205 ∷ 0 ∷ 0 ∷ 0x36353433 ∷ 0x36353837 ∷ [])
    ∷ quiet (8 ∷ 0 ∷ 0 ∷ 5 ∷ 5 ∷ 0 ∷ 0 ∷ 5 ∷ []) true (0x40000000 ∷ 0x20000000 ∷ 0x40000000 ∷ 0xa00186a0 ∷ 0x10000000 ∷ [])
    ∷ quiet (2 ∷ 0 ∷ 0 ∷ 5 ∷ 5 ∷ 0 ∷ 1 ∷ 3 ∷ []) false (0x40000000 ∷ 0x20000000 ∷ 0x40000000 ∷ [])
    ∷ limit (10 ∷ 0 ∷ 1 ∷ 10 ∷ 11 ∷ 0 ∷ 10 ∷ 171 ∷ []) 0
    ∷ limit (2 ∷ 0 ∷ 0 ∷ 10 ∷ 10 ∷ 0 ∷ 10 ∷ 169 ∷ []) 0
    ∷ limit (3 ∷ 0 ∷ 0 ∷ 1 ∷ 2 ∷ 0 ∷ 1 ∷ 34 ∷ []) 1
    ∷ limit (0 ∷ 0 ∷ 0 ∷ 1 ∷ 2 ∷ 0 ∷ 1 ∷ 34 ∷ []) 0
    ∷ quiet (0 ∷ 0 ∷ 0 ∷ 0 ∷ 1 ∷ 0 ∷ 0 ∷ 0 ∷ []) false []
    ∷ call (0 ∷ 0 ∷ 0 ∷ 0 ∷ 1 ∷ 0 ∷ 0 ∷ 3 ∷ []) false None None 0 59 (0x20000000 ∷ 0x3000003b ∷ 0x20000000 ∷ [])
    ∷ call (0 ∷ 0 ∷ 2 ∷ 0 ∷ 1 ∷ 0 ∷ 0 ∷ 3 ∷ []) false None None 0 60 (0x20000000 ∷ 0x3000003c ∷ 0x20000000 ∷ [])
    ∷ quiet (0 ∷ 0 ∷ 3 ∷ 0 ∷ 1 ∷ 0 ∷ 0 ∷ 2 ∷ []) false (0x10000000 ∷ 0x50000000 ∷ [])
    ∷ quiet (0 ∷ 0 ∷ 0 ∷ 0 ∷ 1 ∷ 0 ∷ 0 ∷ 2 ∷ []) false (0x10000000 ∷ 0x50000000 ∷ [])
    ∷ quiet (8 ∷ 0 ∷ 0 ∷ 0 ∷ 1 ∷ 0 ∷ 0 ∷ 9 ∷ []) true (0x20000000 ∷ 0x6000001c ∷ 0xffe3001c ∷ 0xc000000 ∷ 0 ∷ 2 ∷ 0 ∷ 0x10002 ∷ 0 ∷ [])
    ∷ quiet (12 ∷ 0 ∷ 0 ∷ 0 ∷ 1 ∷ 0 ∷ 0 ∷ 0 ∷ []) false []
    ∷ quiet (12 ∷ 0 ∷ 0 ∷ 0 ∷ 1 ∷ 0 ∷ 0 ∷ 1 ∷ []) false (0x10000000 ∷ [])
    ∷ quiet (12 ∷ 0 ∷ 0 ∷ 0 ∷ 1 ∷ 0 ∷ 0 ∷ 1 ∷ []) true (0x20000000 ∷ [])
    ∷ quiet (8 ∷ 0 ∷ 0 ∷ 0 ∷ 1 ∷ 0 ∷ 0 ∷ 1 ∷ []) false (0x10000000 ∷ [])
    ∷ quiet (9 ∷ 0 ∷ 0 ∷ 0 ∷ 1 ∷ 0 ∷ 0 ∷ 1 ∷ []) false (0x10000000 ∷ [])
    ∷ quiet (9 ∷ 0 ∷ 0 ∷ 0 ∷ 1 ∷ 0 ∷ 0 ∷ 1 ∷ []) false (0x10000000 ∷ [])
    ∷ quiet (7 ∷ 9 ∷ 0 ∷ 0 ∷ 1 ∷ 0 ∷ 0 ∷ 1 ∷ []) false (0x10000000 ∷ [])
    ∷ quiet (9 ∷ 0 ∷ 0 ∷ 5 ∷ 5 ∷ 0 ∷ 0 ∷ 1 ∷ []) true (0x40000000 ∷ [])
    ∷ call (7 ∷ 4 ∷ 0 ∷ 0 ∷ 1 ∷ 0 ∷ 0 ∷ 2 ∷ []) true None None 0 5 (0x20000000 ∷ 0x30000005 ∷ [])
    ∷ quiet (5 ∷ 0 ∷ 0 ∷ 0 ∷ 1 ∷ 0 ∷ 0 ∷ 0 ∷ []) false []
    ∷ quiet (6 ∷ 0 ∷ 0 ∷ 0 ∷ 1 ∷ 0 ∷ 0 ∷ 0 ∷ []) false []
    ∷ quiet (4 ∷ 0 ∷ 3 ∷ 0 ∷ 1 ∷ 0 ∷ 0 ∷ 0 ∷ []) false []
    ∷ quiet (1 ∷ 0 ∷ 3 ∷ 0 ∷ 1 ∷ 0 ∷ 0 ∷ 0 ∷ []) false []
    ∷ limit (0 ∷ 0 ∷ 0 ∷ 1 ∷ 1 ∷ 0 ∷ 0 ∷ 512 ∷ []) 0
    ∷ limit (1 ∷ 0 ∷ 0 ∷ 1 ∷ 1 ∷ 0 ∷ 0 ∷ 0 ∷ []) 0
    ∷ limit (1 ∷ 0 ∷ 0 ∷ 1 ∷ 1 ∷ 0 ∷ 0 ∷ 0 ∷ []) 0
    ∷ limit (1 ∷ 0 ∷ 0 ∷ 0 ∷ 1 ∷ 0 ∷ 0 ∷ 0 ∷ []) 0
    ∷ limit (2 ∷ 0 ∷ 0 ∷ 1 ∷ 1 ∷ 0 ∷ 1 ∷ 514 ∷ []) 0
    ∷ limit (1 ∷ 0 ∷ 0 ∷ 1 ∷ 1 ∷ 0 ∷ 1 ∷ 0 ∷ []) 0
    ∷ limit (1 ∷ 0 ∷ 0 ∷ 0 ∷ 1 ∷ 0 ∷ 0 ∷ 0 ∷ []) 0
    ∷ []

pub table : map row cases ≡ results
unfolding cases results exchanges opened
table = refl
