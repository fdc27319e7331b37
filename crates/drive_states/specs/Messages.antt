-- Messages: what they say, their bytes, and how a reader takes them. KW is the vector of known numbers, DW the decide
-- message; KN and DC are the same with shorter numbers, which are read and no longer sent. The rules of the exchange
-- speak of messages and not of bytes.
use Rattle.std.specs.Prelude.{◌≡◌, Bool, true, false, not, ◌&&◌, ◌||◌, cond, List, [], ◌∷◌, ◌++◌, map, ℕ, ◌+◌, ◌*◌, ◌^◌, ◌<◌, ltb, length, take, drop}
use Rattle.drive_sets.specs.declared.Refusal.TheVariants.{EndsTooSoon, TrailingBytes, DriveNumber, KnownMask}
use Rattle.drive_sets.specs.Masks.{has, full, subset, size, drives}
use Rattle.drive_sets.specs.Refusals.{Outcome, yields, refuse_if}
use Rattle.records.specs.declared.Due.TheVariants.{AtMessage}
use Rattle.records.specs.declared.Kind.{Kind}
use Rattle.records.specs.declared.Kind.TheVariants.{Known, Decide, WideKnown, WideDecide}
use Rattle.records.specs.Fields.{from_bytes, to_bytes, field_at}
use Rattle.records.specs.Marks.{mark, Form, narrow, wide, width_in, number_width, is_kind, head_of}
use Rattle.records.specs.RecordLists.{at_record}
use Rattle.drive_sets.specs.Counts.{is_drive}
use Rattle.drive_sets.specs.Limits.{max_drives, pattern_width}
pub mod Laws

-- ---- what a message says

-- a drive and its pattern number
pub record Entry : Type 0 where
  pub drive : ℕ
  pub number : ℕ

-- a KN or KW tells the numbers of the drives of a mask, rising by drive; a DC or DW announces a number
pub data Content : Type 0 where
  known : ℕ → List Entry → Content
  decided : ℕ → Content

pub record Message : Type 0 where
  pub sender : ℕ
  pub round : ℕ
  pub content : Content

abbrev pub message : ℕ → ℕ → Content → Message
message sender round content = record { sender = sender; round = round; content = content }

-- the drives whose numbers are told, and the entries; a decision tells none
unfoldable pub mask_in : Content → ℕ
mask_in (known mask entries) = mask
mask_in (decided v) = 0

unfoldable pub entries_in : Content → List Entry
entries_in (known mask entries) = entries
entries_in (decided v) = []

-- the numbers of the drives of a mask
abbrev pub entry_of : (ℕ → ℕ) → ℕ → Entry
entry_of number d = record { drive = d; number = number d }

abbrev pub known_of : ℕ → (ℕ → ℕ) → Content
known_of mask number = known mask (map (entry_of number) (drives mask))

-- ---- bytes, with numbers of so many bytes each

unfoldable pub entry_bytes : ℕ → List Entry → List ℕ
entry_bytes width [] = []
entry_bytes width (e ∷ es) = to_bytes width e.number ++ entry_bytes width es

-- KN and KW: mask of known drives, 8 bytes; their pattern numbers rising by drive. DC and DW: pattern number
unfoldable pub content_bytes : ℕ → Content → List ℕ
content_bytes width (known mask entries) = to_bytes 8 mask ++ entry_bytes width entries
content_bytes width (decided v) = to_bytes width v

-- how many bytes a message has: for a KN or KW its mask says how many numbers follow
unfoldable pub length_in : ℕ → Content → ℕ
length_in width (known mask entries) = 12 + width * size mask
length_in width (decided v) = 4 + width

-- a message with narrow numbers is a KN or DC, and with wide ones a KW or DW
unfoldable pub kind_in : Form → Content → Kind
kind_in narrow (known mask entries) = Known
kind_in narrow (decided v) = Decide
kind_in wide (known mask entries) = WideKnown
kind_in wide (decided v) = WideDecide

-- all start with the mark; sender, round, 1 byte each
unfoldable pub bytes_in : Form → Message → List ℕ
bytes_in form m =
    to_bytes 2 (mark (kind_in form m.content))
    ++ (to_bytes 1 m.sender ++ (to_bytes 1 m.round ++ content_bytes (width_in form) m.content))

-- a message that its bytes can hold: fields of one byte, a mask of 64 bits, numbers of the form's width
abbrev pub ContentFits : Form → Content → Type 0
ContentFits form (known mask entries) =
    (number : ℕ → ℕ) × (mask < 2 ^ 64) × (entries ≡ map (entry_of number) (drives mask)) × ((d : ℕ) → has d mask ≡ true → number d < 256 ^ width_in form)
ContentFits form (decided v) = v < 256 ^ width_in form

pub record Fits (form : Form) (m : Message) : Type 0 where
  pub sender_byte : m.sender < 256
  pub round_byte : m.round < 256
  pub content_fits : ContentFits form m.content

-- drives send the wide form only
abbrev pub message_bytes : Message → List ℕ
message_bytes m = bytes_in wide m

-- no message is longer: 12 bytes and 64 numbers
abbrev pub longest_message : ℕ
longest_message = 12 + pattern_width * max_drives

-- ---- reading. A field is read from whatever stands there: the refusals say first that it is there

unfoldable pub sender_of : List ℕ → ℕ
sender_of s = field_at 2 1 s

unfoldable pub round_of : List ℕ → ℕ
round_of s = field_at 3 1 s

-- of a KN or KW
unfoldable pub mask_of : List ℕ → ℕ
mask_of s = field_at 4 8 s

-- of a DC or DW
unfoldable pub pattern_of : ℕ → List ℕ → ℕ
pattern_of width s = field_at 4 width s

-- the drives, each with the next bytes
unfoldable pub entries_from : ℕ → List ℕ → List ℕ → List Entry
entries_from width [] s = []
entries_from width (d ∷ ds) s = record { drive = d; number = from_bytes (take width s) } ∷ entries_from width ds (drop width s)

-- the message tells numbers: a KN or KW
unfoldable pub is_known : Kind → Bool
is_known kind = is_kind Known kind || is_kind WideKnown kind

unfoldable pub content_of : Kind → List ℕ → Content
content_of kind s =
    cond (is_known kind) (known (mask_of s) (entries_from (number_width kind) (drives (mask_of s)) (drop 12 s)))
    (decided (pattern_of (number_width kind) s))

unfoldable pub message_of : Kind → List ℕ → Message
message_of kind s = record { sender = sender_of s; round = round_of s; content = content_of kind s }

-- 15: the mask of a KN or KW lacks the sender or has a bit above n
unfoldable pub wrong_mask : ℕ → ℕ → Content → Bool
wrong_mask n sender (known mask entries) = not (has sender mask && subset mask (full n))
wrong_mask n sender (decided v) = false

-- a message of so many bytes, with numbers of this width, to a drive of a frame of n: 8, 15, values cut (1), 7
unfoldable pub checked : ℕ → ℕ → ℕ → Message → Outcome Message
checked n width bytes m =
    refuse_if (not (is_drive n m.sender)) DriveNumber
    (refuse_if (wrong_mask n m.sender m.content) KnownMask
    (refuse_if (ltb bytes (length_in width m.content)) EndsTooSoon
    (refuse_if (ltb (length_in width m.content) bytes) TrailingBytes
    (yields m))))

-- mark cut (1), 2, the rest up to the mask of a KN or KW cut (1), and what follows
unfoldable pub read_message : ℕ → List ℕ → Outcome Message
read_message n s = at_record (head_of AtMessage s) (λ kind. checked n (number_width kind) (length s) (message_of kind s))
