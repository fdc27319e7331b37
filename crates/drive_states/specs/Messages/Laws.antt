-- Reading a message that was written gives it back, whether its numbers are narrow or wide; and how long it is.
use Rattle.std.specs.Prelude.{◌≡◌, refl, Bool, true, false, not, cond, ℕ, ◌*◌, ◌^◌, ◌<◌, ◌≤◌, length, drop, Result, Ok}
use Rattle.std.proofs.Math.Path.{sym, ap, ap₂}
use Rattle.std.proofs.Common.{◌∙◌, subst, length-append, take_at, take_all, drop_at, le-ltb}
use mathlib.Core.List.{List, [], ◌∷◌, ◌++◌, map}
use native.Mathlib.Omega.{arith}
use Rattle.drive_sets.specs.declared.Refusal.{Refusal}
use Rattle.drive_sets.specs.Bools.Laws.{cond_true, cond_false}
use Rattle.drive_sets.specs.Lists.{elem}
use Rattle.drive_sets.specs.Lists.Laws.{elem_head, elem_tail}
use Rattle.drive_sets.specs.Masks.{has, drives}
use Rattle.drive_sets.specs.Masks.Sizes.{size_le, elem_drives, length_drives, drives_none}
use Rattle.drive_sets.specs.declared.Refusal.TheVariants.{DriveNumber, KnownMask}
use Rattle.drive_sets.specs.Refusals.{yields, refuse_if}
use Rattle.records.specs.declared.Due.TheVariants.{AtMessage}
use Rattle.records.specs.declared.Kind.{Kind}
use Rattle.records.specs.declared.Kind.TheVariants.{Known, Decide, WideKnown, WideDecide}
use Rattle.records.specs.Fields.{from_bytes, to_bytes}
use Rattle.records.specs.Fields.Laws.{length_to_bytes, field_back}
use Rattle.records.specs.Marks.{ascii, mark_text, mark, Form, narrow, wide, width_in, number_width, body_width, is_kind, is_due, head_of}
use Rattle.records.specs.Marks.Laws.{head_body}
use Rattle.records.specs.RecordLists.{at_record}
use Rattle.drive_sets.specs.Counts.{is_drive}
use Rattle.drive_sets.specs.Limits.{pattern_width}
use Rattle.drive_states.specs.Messages.{Entry, Content, known, decided, Message, message, mask_in, entries_in, entry_of, known_of, entry_bytes, content_bytes, length_in, kind_in, bytes_in, ContentFits, Fits, longest_message, sender_of, round_of, mask_of, pattern_of, entries_from, is_known, content_of, message_of, wrong_mask, checked, read_message}

-- ---- what is told

-- what is read tells the drives of its mask
pub entries_mask : (kind : Kind) (s : List ℕ)
    → entries_in (content_of kind s) ≡ entries_from (number_width kind) (drives (mask_in (content_of kind s))) (drop 12 s)
unfolding content_of entries_in mask_in entries_from
entries_mask kind s = by_kind (is_known kind)
  where
    read : Bool → Content
    read b = cond b (known (mask_of s) (entries_from (number_width kind) (drives (mask_of s)) (drop 12 s))) (decided (pattern_of (number_width kind) s))

    by_kind : (b : Bool) → entries_in (read b) ≡ entries_from (number_width kind) (drives (mask_in (read b))) (drop 12 s)
    by_kind true = refl
    by_kind false = sym (ap (λ (ds : List ℕ). entries_from (number_width kind) ds (drop 12 s)) drives_none)

-- what is told depends on the numbers of the mask's drives alone
entries_same : (f g : ℕ → ℕ) (ds : List ℕ) → ((d : ℕ) → elem d ds ≡ true → f d ≡ g d) → map (entry_of f) ds ≡ map (entry_of g) ds
entries_same f g [] same = refl
entries_same f g (d ∷ ds) same =
    ap₂ (λ (v : ℕ) (es : List Entry). record { drive = d; number = v } ∷ es) (same d (elem_head d ds)) (entries_same f g ds (λ x e. same x (elem_tail x d ds e)))

pub known_same : (mask : ℕ) (f g : ℕ → ℕ) → mask < 2 ^ 64 → ((d : ℕ) → has d mask ≡ true → f d ≡ g d) → known_of mask f ≡ known_of mask g
known_same mask f g h same = ap (known mask) (entries_same f g (drives mask) (λ d e. same d (sym (elem_drives d mask h) ∙ e)))

-- ---- lengths

pub length_entries : (width : ℕ) (number : ℕ → ℕ) (ds : List ℕ) → length (entry_bytes width (map (entry_of number) ds)) ≡ width * length ds
unfolding entry_bytes
length_entries width number [] = omega arith
length_entries width number (d ∷ ds) =
    length-append (to_bytes width (number d)) (entry_bytes width (map (entry_of number) ds)) ∙ omega (arith, length_to_bytes width (number d), length_entries width number ds)

module _ (form : Form) (sender round : ℕ) where
  pub length_known : (mask : ℕ) (number : ℕ → ℕ) → length (bytes_in form (message sender round (known_of mask number))) ≡ length_in (width_in form) (known_of mask number)
  unfolding bytes_in content_bytes to_bytes length_in
  length_known mask number = omega (arith, length_entries (width_in form) number (drives mask), ap (λ (k : ℕ). width_in form * k) (length_drives mask))

  pub length_decided : (v : ℕ) → length (bytes_in form (message sender round (decided v))) ≡ length_in (width_in form) (decided v)
  unfolding bytes_in content_bytes to_bytes length_in
  length_decided v = omega (arith, length_to_bytes (width_in form) v)

pub length_longest : (content : Content) → length_in pattern_width content ≤ longest_message
unfolding length_in
length_longest (known mask entries) = omega (arith, size_le mask)
length_longest (decided v) = omega arith

-- ---- reading back

message_head : (form : Form) (m : Message) → head_of AtMessage (bytes_in form m) ≡ Ok (kind_in form m.content)
unfolding bytes_in content_bytes kind_in to_bytes body_width is_due is_kind mark mark_text ascii from_bytes
message_head form m = by_form form m.content
  where
    by_form : (f : Form) (c : Content)
        → head_of AtMessage (to_bytes 2 (mark (kind_in f c)) ++ (to_bytes 1 m.sender ++ (to_bytes 1 m.round ++ content_bytes (width_in f) c))) ≡ Ok (kind_in f c)
    by_form narrow (known mask entries) = head_body AtMessage Known _ refl (omega arith)
    by_form narrow (decided v) = head_body AtMessage Decide _ refl (omega arith)
    by_form wide (known mask entries) = head_body AtMessage WideKnown _ refl (omega arith)
    by_form wide (decided v) = head_body AtMessage WideDecide _ refl (omega arith)

-- the width that is read is the one that was written
kind_width : (form : Form) (c : Content) → number_width (kind_in form c) ≡ width_in form
unfolding number_width kind_in
kind_width narrow (known mask entries) = refl
kind_width narrow (decided v) = refl
kind_width wide (known mask entries) = refl
kind_width wide (decided v) = refl

known_kind : (form : Form) (mask : ℕ) (entries : List Entry) → is_known (kind_in form (known mask entries)) ≡ true
unfolding is_known is_kind kind_in mark mark_text ascii from_bytes
known_kind narrow mask entries = refl
known_kind wide mask entries = refl

decided_kind : (form : Form) (v : ℕ) → is_known (kind_in form (decided v)) ≡ false
unfolding is_known is_kind kind_in mark mark_text ascii from_bytes
decided_kind narrow v = refl
decided_kind wide v = refl

-- the message is read back from its bytes, and has as many as it should
pub record Written (form : Form) (m : Message) : Type 0 where
  pub back : message_of (kind_in form m.content) (bytes_in form m) ≡ m
  pub whole : length_in (width_in form) m.content ≡ length (bytes_in form m)

entries_back : (width : ℕ) (number : ℕ → ℕ) (ds : List ℕ) → ((d : ℕ) → elem d ds ≡ true → number d < 256 ^ width)
    → entries_from width ds (entry_bytes width (map (entry_of number) ds)) ≡ map (entry_of number) ds
unfolding entries_from entry_bytes
entries_back width number [] small = refl
entries_back width number (d ∷ ds) small =
    let rest = entry_bytes width (map (entry_of number) ds) in
    ap₂ (λ (v : ℕ) (es : List Entry). record { drive = d; number = v } ∷ es)
    (ap from_bytes (take_at (to_bytes width (number d)) rest width (length_to_bytes width (number d))) ∙ field_back width (number d) (small d (elem_head d ds)))
    (ap (entries_from width ds) (drop_at (to_bytes width (number d)) rest width (length_to_bytes width (number d)))
    ∙ entries_back width number ds (λ x e. small x (elem_tail x d ds e)))

module _ (form : Form) (sender round : ℕ) (a : sender < 256) (b : round < 256) where
  module _ (c : Content) where
    sender_back : sender_of (bytes_in form (message sender round c)) ≡ sender
    unfolding sender_of bytes_in to_bytes from_bytes
    sender_back = omega arith

    round_back : round_of (bytes_in form (message sender round c)) ≡ round
    unfolding round_of bytes_in to_bytes from_bytes
    round_back = omega arith

  module _ (mask : ℕ) (number : ℕ → ℕ) (word : mask < 2 ^ 64) (small : (d : ℕ) → has d mask ≡ true → number d < 256 ^ width_in form) where
    abbrev kn : Message
    kn = message sender round (known_of mask number)

    mask_back : mask_of (bytes_in form kn) ≡ mask
    unfolding mask_of bytes_in content_bytes to_bytes
    mask_back =
        ap from_bytes (take_at (to_bytes 8 mask) (entry_bytes (width_in form) (map (entry_of number) (drives mask))) 8 (length_to_bytes 8 mask)) ∙ field_back 8 mask word

    told_back : (width : ℕ) → width ≡ width_in form
        → entries_from width (drives (mask_of (bytes_in form kn))) (drop 12 (bytes_in form kn)) ≡ map (entry_of number) (drives mask)
    unfolding bytes_in content_bytes to_bytes
    told_back width e =
        ap₂ (λ (w m : ℕ). entries_from w (drives m) (entry_bytes (width_in form) (map (entry_of number) (drives mask)))) e mask_back
        ∙ entries_back (width_in form) number (drives mask) (λ d e. small d (sym (elem_drives d mask word) ∙ e))

    content_back : content_of (kind_in form kn.content) (bytes_in form kn) ≡ kn.content
    unfolding content_of
    content_back =
        cond_true _ _ (known_kind form mask (map (entry_of number) (drives mask)))
        ∙ ap₂ (λ (m : ℕ) (es : List Entry). known m es) mask_back (told_back (number_width (kind_in form kn.content)) (kind_width form kn.content))

    pub known_written : Written form kn
    unfolding message_of
    known_written = record {
      back = λ j. record { sender = sender_back kn.content j; round = round_back kn.content j; content = content_back j };
      whole = sym (length_known form sender round mask number);
    }

  module _ (v : ℕ) (small : v < 256 ^ width_in form) where
    number_back : pattern_of (width_in form) (bytes_in form (message sender round (decided v))) ≡ v
    unfolding pattern_of bytes_in content_bytes to_bytes
    number_back = ap from_bytes (take_all (width_in form) (to_bytes (width_in form) v) (omega (arith, length_to_bytes (width_in form) v))) ∙ field_back (width_in form) v small

    decision_back : content_of (kind_in form (decided v)) (bytes_in form (message sender round (decided v))) ≡ decided v
    unfolding content_of
    decision_back =
        cond_false _ _ (decided_kind form v)
        ∙ ap decided (ap (λ (w : ℕ). pattern_of w (bytes_in form (message sender round (decided v)))) (kind_width form (decided v)) ∙ number_back)

    pub decided_written : Written form (message sender round (decided v))
    unfolding message_of
    decided_written = record {
      back = λ j. record { sender = sender_back (decided v) j; round = round_back (decided v) j; content = decision_back j };
      whole = sym (length_decided form sender round v);
    }

pub fits_written : (form : Form) (m : Message) → Fits form m → Written form m
fits_written form m h = by_content m.content h.content_fits
  where
    by_content : (c : Content) → ContentFits form c → Written form (message m.sender m.round c)
    by_content (known mask entries) (number, word, told, small) =
        subst (λ (es : List Entry). Written form (message m.sender m.round (known mask es))) (sym told)
        (known_written form m.sender m.round h.sender_byte h.round_byte mask number word small)
    by_content (decided v) small = decided_written form m.sender m.round h.sender_byte h.round_byte v small

-- narrow numbers fit wide records
narrow_fits : (m : Message) → Fits narrow m → Fits wide m
narrow_fits m h = record { sender_byte = h.sender_byte; round_byte = h.round_byte; content_fits = by_content m.content h.content_fits }
  where
    by_content : (c : Content) → ContentFits narrow c → ContentFits wide c
    by_content (known mask entries) (number, word, told, small) = (number, word, told, λ d e. omega (arith, small d e))
    by_content (decided v) small = omega arith

-- reading what was written: only whom the message is from and for can be refused
read_written : (n : ℕ) (form : Form) (m : Message) → Written form m
    → read_message n (bytes_in form m) ≡ refuse_if (not (is_drive n m.sender)) DriveNumber (refuse_if (wrong_mask n m.sender m.content) KnownMask (yields m))
unfolding read_message checked
read_written n form m w =
    let bytes = bytes_in form m in
    ap (λ (h : Result Kind Refusal). at_record h (λ kind. checked n (number_width kind) (length bytes) (message_of kind bytes))) (message_head form m)
    ∙ (ap₂ (λ (width : ℕ) (x : Message). checked n width (length bytes) x) (kind_width form m.content) w.back
    ∙ rw (le-ltb (length bytes) (length_in (width_in form) m.content) (omega (arith, w.whole)), le-ltb (length_in (width_in form) m.content) (length bytes) (omega (arith, w.whole))) refl)

-- where the message is for the frame
pub read_back : (n : ℕ) (form : Form) (m : Message) → Written form m → is_drive n m.sender ≡ true → wrong_mask n m.sender m.content ≡ false
    → read_message n (bytes_in form m) ≡ yields m
read_back n form m w drive right = read_written n form m w ∙ rw (drive, right) refl

-- a message with narrow numbers says what the one with wide numbers says
pub narrow_as_wide : (n : ℕ) (m : Message) → Fits narrow m → read_message n (bytes_in narrow m) ≡ read_message n (bytes_in wide m)
narrow_as_wide n m h = read_written n narrow m (fits_written narrow m h) ∙ sym (read_written n wide m (fits_written wide m (narrow_fits m h)))
