-- 'cyw43_sdpcm.rs': the SDPCM header, sent and received. A received packet is read from the bytes that it declares.
use Rattle.std.specs.Prelude.{ℕ, ◌+◌, ◌-◌, ◌*◌, ◌/◌, ◌%◌, Bool, true, false, ◌&&◌, List, [], ◌∷◌, ◌++◌, ltb, leb, eqb, length, take, get_or, Ok, Err}
use Rattle.slices.specs.Pick.{pick}
use Rattle.slices.specs.Le.{le16, le16_at, le32_at, signed32}
use Rattle.wlan.specs.State.{set_credit, set_flow}
use Rattle.wlan.specs.declared.Sdpcm.{Sdpcm}
use Rattle.wlan.specs.declared.Interface.{Interface}
use Rattle.wlan.specs.declared.SdpcmPacket.{SdpcmPacket}
use Rattle.wlan.specs.declared.RxPacket.{RxPacket}
use Rattle.definition.specs.Bus.{Bytes}
use Rattle.wlan.specs.Results.{Received}
use Rattle.wlan.specs.declared.RxError.{RxError}

-- 'Header: size le 0..1, its complement 2..3, sequence 4, channel in the low 4 bits of 5, next length 6, header length 7,
-- flow 8, credit 9, zeros 10..11.'
abbrev pub size_in : Bytes → ℕ
size_in b = le16_at b 0

abbrev pub complement_in : Bytes → ℕ
complement_in b = le16_at b 2

abbrev pub channel_in : Bytes → ℕ
channel_in b = get_or b 5 0 % 16

abbrev pub header_length_in : Bytes → ℕ
header_length_in b = get_or b 7 0

abbrev pub flow_in : Bytes → ℕ
flow_in b = get_or b 8 0

abbrev pub credit_in : Bytes → ℕ
credit_in b = get_or b 9 0

-- ---- sent

-- 'A sent header has the channel in 5, header length 12 (14 for data) and zeros in 6 and 8..11.'
unfoldable pub header : ℕ → ℕ → ℕ → Bytes
header size seq channel = le16 size ++ (le16 (65535 - size) ++ (seq ∷ channel ∷ 0 ∷ pick (eqb channel 2) 14 12 ∷ 0 ∷ 0 ∷ 0 ∷ 0 ∷ []))

-- 'Sent data has zeros in 12..13, then 0x20, 0, interface, 0, and the frame from 18.'
unfoldable pub data_part : ℕ → Bytes → Bytes
data_part interface frame = 0 ∷ 0 ∷ 32 ∷ 0 ∷ interface ∷ 0 ∷ frame

-- ---- received

abbrev pub right_complement : Bytes → Bool
right_complement b = eqb (size_in b + complement_in b) 65535

-- the size that a packet declares; with a wrong complement it declares none
unfoldable pub declared : Bytes → ℕ
declared b = pick (right_complement b) (size_in b) 0

-- 'Wrong complement, or size below 12: None, state kept.'
abbrev pub is_packet : Bytes → Bool
is_packet b = right_complement b && leb 12 (size_in b)

-- the difference of a new credit, taken modulo 256 from the last
abbrev pub credit_step : ℕ → ℕ → ℕ
credit_step last new = (new + 256 - last) % 256

-- 'For channel below 3 the credit is stored if the difference taken modulo 256 from the last is at most 20.'
abbrev pub credits : Bytes → Sdpcm → Bool
credits b s = ltb (channel_in b) 3 && leb (credit_step s.last_bus_data_credit (credit_in b)) 20

-- by how much a packet raises the credit
unfoldable pub advance : Bytes → Sdpcm → ℕ
advance b s = pick (is_packet b && credits b s) (credit_step s.last_bus_data_credit (credit_in b)) 0

-- 'Else flow is stored.'
unfoldable pub accepted : Bytes → Sdpcm → Sdpcm
accepted b s = pick (credits b s) (set_credit (set_flow s (flow_in b)) (credit_in b)) (set_flow s (flow_in b))

-- 'Channel 0: None if size < h + 16 (h the header length) or the top 16 bits of le flags at h+8 differ from the last id.
-- Else Control, offset h+16, signed le status at h+12.'
unfoldable pub control_of : Bytes → ℕ → ℕ → ℕ → SdpcmPacket
control_of v size h id =
    pick (ltb size (h + 16)) SdpcmPacket.None
    (pick (eqb (le32_at v (h + 8) / 65536) id) (SdpcmPacket.Control (h + 16) (size - (h + 16)) (signed32 (le32_at v (h + 12)))) SdpcmPacket.None)

-- 'Interface from byte h+2, above 2 read as 0.'
unfoldable pub interface_of : ℕ → Interface
interface_of n = pick (eqb n 1) Interface.Ap (pick (eqb n 2) Interface.P2p Interface.Sta)

-- 'Channel 2: None if size <= 16, size < h+4, or size < p = h+4+4 times byte h+3. Else Data at p.'
unfoldable pub data_of : Bytes → ℕ → ℕ → SdpcmPacket
data_of v size h =
    let p = h + 4 + 4 * get_or v (h + 3) 0 in
    pick (leb size 16) SdpcmPacket.None
    (pick (ltb size (h + 4)) SdpcmPacket.None
    (pick (ltb size p) SdpcmPacket.None (SdpcmPacket.Data p (size - p) (interface_of (get_or v (h + 2) 0)))))

-- 'Channel 1: AsyncEvent at h; h > size is refused 10.'
unfoldable pub event_at : ℕ → ℕ → Received
event_at size h = pick (ltb size h) (Err RxError.HeaderBeyond) (Ok (SdpcmPacket.AsyncEvent h (size - h)))

-- 'Other channels: None.' v: the declared bytes
unfoldable pub payload_of : Bytes → ℕ → ℕ → ℕ → ℕ → Received
payload_of v size channel h id =
    pick (eqb channel 0) (Ok (control_of v size h id))
    (pick (eqb channel 1) (event_at size h)
    (pick (eqb channel 2) (Ok (data_of v size h)) (Ok SdpcmPacket.None)))

-- `sdpcm_process_rx_packet`. 'The received count is not consulted.'
unfoldable pub process_rx : ℕ → Bytes → Sdpcm → RxPacket
process_rx came b s =
    pick (is_packet b)
    (record {
      sdpcm = accepted b s;
      received = payload_of (take (size_in b) b) (size_in b) (channel_in b) (header_length_in b) s.requested_ioctl_id;
    })
    (record { sdpcm = s; received = Ok SdpcmPacket.None })
