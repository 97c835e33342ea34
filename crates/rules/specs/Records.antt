-- Document 01, "Records": what the bytes of a record say, which are sound, and what is written for an event.
use Rattle.std.specs.Prelude.{ℕ, ◌+◌, ◌*◌, ◌-◌, Bool, cond, not, ◌&&◌, ◌≡◌, refl, eqb, leb, ltb, length, get_or, Option, Some, None, Ok, Err}
use mathlib.Core.List.{List, [], ◌∷◌, ◌++◌, map, flat_map}
use Rattle.arith.specs.Lists.{from, every, over}
use Rattle.rules.specs.declared.refusal.Refusal.TheVariants.{TableUnsound, RecordUnsound}
use Rattle.rules.specs.declared.event.Cancellation.{Cancellation}
use Rattle.rules.specs.declared.event.CloseOutTerms.{CloseOutTerms}
use Rattle.rules.specs.declared.event.Event.{Event}
use Rattle.rules.specs.declared.event.Event.TheVariants.{Submit, Cancel, DayLimits, Proposal, Default, CloseOut, CloseOfDay}
use Rattle.rules.specs.declared.event.Front.{Front}
use Rattle.rules.specs.declared.event.Front.TheVariants.{Whole, Cut, UnknownKind}
use Rattle.rules.specs.declared.event.Leg.{Leg}
use Rattle.rules.specs.declared.event.NewDayLimits.{NewDayLimits}
use Rattle.rules.specs.declared.event.OrderKind.{OrderKind}
use Rattle.rules.specs.declared.event.OrderKind.TheVariants.{Resting, Oeye, Teye}
use Rattle.rules.specs.declared.event.Submission.{Submission}
use Rattle.rules.specs.declared.field.Field.{Field}
use Rattle.rules.specs.declared.field.Field.TheVariants.{Kind}
use Rattle.rules.specs.declared.order.Side.TheVariants.{Sell}
use Rattle.rules.specs.Ranges.{contract_count, last_second, most_price, most_lots, least_legs, most_legs, order_numbers_end, most_ratio}
use Rattle.rules.specs.Sides.{side_number, side_of}
use Rattle.rules.specs.Answers.{Outcome, decide, Reply, reply_of}
use Rattle.rules.specs.Header.{members_sound}
use Rattle.rules.specs.Fields.{submit_kind, cancel_kind, day_limits_kind, proposal_kind, default_kind, close_out_kind, close_of_day_kind, has_legs, widths, leg_fields}
use Rattle.rules.specs.Fields.{kind_fields, numbers_at, bytes_by}

-- ---- lengths and places
-- In bytes, with the kind, of a record with such fields and so many bytes of legs; 0 where no kind has that number.
abbrev pub length_with : List Field → ℕ → ℕ
length_with [] legs = 0
length_with (f ∷ fs) legs = widths (Kind ∷ f ∷ fs) + legs

-- By a record's kind and, of a proposal, its number of legs.
unfoldable pub record_length : ℕ → ℕ → ℕ
unfolding kind_fields widths
record_length kind legs = length_with (kind_fields kind) (cond (has_legs kind) (widths leg_fields * legs) 0)

-- Where a record's kind, its first field, a proposal's number of legs and its first leg stand.
abbrev pub kind_byte : ℕ
kind_byte = 0

abbrev pub first_field_byte : ℕ
first_field_byte = 1

abbrev pub proposal_legs_byte : ℕ
proposal_legs_byte = 1

abbrev pub first_leg_byte : ℕ
first_leg_byte = 2

-- How many bytes a leg takes. `leg_lengths` below says that it follows from Fields.
abbrev pub leg_length : ℕ
leg_length = 10

-- Where leg j of a proposal begins, and so where a proposal of j legs ends: after kind and count.
abbrev pub leg_place : ℕ → ℕ
leg_place j = first_leg_byte + leg_length * j

-- The bytes of a record of each kind, without legs.
lengths : map (λ kind. record_length kind 0) (from 1 7) ≡ 15 ∷ 10 ∷ 10 ∷ 2 ∷ 2 ∷ 4 ∷ 5 ∷ []
unfolding record_length from
lengths = refl

leg_lengths : (legs : ℕ) → record_length proposal_kind legs ≡ leg_place legs
unfolding record_length
leg_lengths legs = refl

-- The length of the record that bytes begin with: its second byte is a proposal's number of legs.
abbrev pub front_length : List ℕ → ℕ
front_length s = record_length (get_or s kind_byte 0) (get_or s proposal_legs_byte 0)

-- ---- side and order kind
abbrev pub side_sound : ℕ → Bool
side_sound b = leb b (side_number Sell)

-- Order kind u8 (0 resting, 1 OEYE, 2 TEYE).
abbrev pub order_kind_number : OrderKind → ℕ
order_kind_number Resting = 0
order_kind_number Oeye = 1
order_kind_number Teye = 2

abbrev pub order_kind_of : ℕ → OrderKind
order_kind_of b = cond (eqb b (order_kind_number Resting)) Resting (cond (eqb b (order_kind_number Oeye)) Oeye Teye)

abbrev pub order_kind_sound : ℕ → Bool
order_kind_sound b = leb b (order_kind_number Teye)

-- ---- ranges
abbrev pub time_sound : ℕ → Bool
time_sound s = leb s last_second

abbrev pub contract_sound : ℕ → Bool
contract_sound c = leb c (contract_count - 1)

-- 1 to 1,000,000 kuruş.
abbrev pub price_sound : ℕ → Bool
price_sound p = leb 1 p && leb p most_price

-- 1 to 100 lots.
abbrev pub lots_sound : ℕ → Bool
lots_sound q = leb 1 q && leb q most_lots

-- 1 ≤ low ≤ high ≤ 1,000,000.
abbrev pub day_limits_sound : ℕ → ℕ → Bool
day_limits_sound l h = leb 1 l && leb l h && leb h most_price

-- An order number has no range of its own: it is any u32.
abbrev pub number_sound : ℕ → Bool
number_sound n = ltb n order_numbers_end

abbrev pub leg_sound : Leg → Bool
leg_sound g = number_sound g.order && lots_sound g.lots.0 && price_sound g.price.0

-- An event in a ledger of n members; a proposal's legs stand beside it, and no other event has any.
unfoldable pub event_sound : ℕ → Event → List Leg → Bool
event_sound n (Submit e) legs =
    time_sound e.time && ltb e.member n && contract_sound e.contract && price_sound e.price.0 && lots_sound e.lots.0 && eqb (length legs) 0
event_sound n (Cancel e) legs = time_sound e.time && ltb e.member n && number_sound e.order && eqb (length legs) 0
event_sound n (DayLimits e) legs = contract_sound e.contract && day_limits_sound e.low.0 e.high.0 && eqb (length legs) 0
event_sound n (Proposal k) legs = leb least_legs k && leb k most_legs && eqb (length legs) k && every leg_sound legs
event_sound n (Default m) legs = ltb m n && eqb (length legs) 0
event_sound n (CloseOut e) legs = contract_sound e.contract && leb 1 e.ratio && leb e.ratio most_ratio && eqb (length legs) 0
event_sound n (CloseOfDay s) legs = time_sound s && eqb (length legs) 0

-- ---- the numbers of an event
abbrev pub kind_number : Event → ℕ
kind_number (Submit e) = submit_kind
kind_number (Cancel e) = cancel_kind
kind_number (DayLimits e) = day_limits_kind
kind_number (Proposal k) = proposal_kind
kind_number (Default m) = default_kind
kind_number (CloseOut e) = close_out_kind
kind_number (CloseOfDay s) = close_of_day_kind

abbrev pub is_close_of_day : Event → Bool
is_close_of_day e = eqb (kind_number e) close_of_day_kind

-- One for each field of its kind.
abbrev pub event_numbers : Event → List ℕ
event_numbers (Submit e) = e.time ∷ e.member ∷ e.contract ∷ side_number e.side ∷ order_kind_number e.kind ∷ e.price.0 ∷ e.lots.0 ∷ []
event_numbers (Cancel e) = e.time ∷ e.member ∷ e.order ∷ []
event_numbers (DayLimits e) = e.contract ∷ e.low.0 ∷ e.high.0 ∷ []
event_numbers (Proposal k) = k ∷ []
event_numbers (Default m) = m ∷ []
event_numbers (CloseOut e) = e.contract ∷ e.ratio ∷ []
event_numbers (CloseOfDay s) = s ∷ []

abbrev pub leg_numbers : Leg → List ℕ
leg_numbers g = g.order ∷ g.lots.0 ∷ g.price.0 ∷ []

-- The kind, the fields, the legs.
unfoldable pub numbers_of : Event → List Leg → List ℕ
numbers_of e legs = kind_number e ∷ event_numbers e ++ cond (has_legs (kind_number e)) (flat_map leg_numbers legs) []

-- ---- the event of numbers, kind first, in whatever ranges
abbrev pub submission_of : List ℕ → Submission
submission_of f =
    record {
      time = get_or f 1 0;
      member = get_or f 2 0;
      contract = get_or f 3 0;
      side = side_of (get_or f 4 0);
      kind = order_kind_of (get_or f 5 0);
      price = record { 0 = get_or f 6 0 };
      lots = record { 0 = get_or f 7 0 };
    }

-- A side or an order kind that no number stands for is out of range.
abbrev pub submit_of : List ℕ → Option Event
submit_of f = cond (side_sound (get_or f 4 0) && order_kind_sound (get_or f 5 0)) (Some (Submit (submission_of f))) None

abbrev pub cancellation_of : List ℕ → Cancellation
cancellation_of f = record { time = get_or f 1 0; member = get_or f 2 0; order = get_or f 3 0 }

abbrev pub new_day_limits_of : List ℕ → NewDayLimits
new_day_limits_of f = record { contract = get_or f 1 0; low = record { 0 = get_or f 2 0 }; high = record { 0 = get_or f 3 0 } }

abbrev pub close_out_of : List ℕ → CloseOutTerms
close_out_of f = record { contract = get_or f 1 0; ratio = get_or f 2 0 }

unfoldable pub event_by_kind : ℕ → List ℕ → Option Event
event_by_kind kind f =
    cond (eqb kind submit_kind) (submit_of f)
    (cond (eqb kind cancel_kind) (Some (Cancel (cancellation_of f)))
    (cond (eqb kind day_limits_kind) (Some (DayLimits (new_day_limits_of f)))
    (cond (eqb kind proposal_kind) (Some (Proposal (get_or f 1 0)))
    (cond (eqb kind default_kind) (Some (Default (get_or f 1 0)))
    (cond (eqb kind close_out_kind) (Some (CloseOut (close_out_of f)))
    (cond (eqb kind close_of_day_kind) (Some (CloseOfDay (get_or f 1 0)))
    None))))))

-- A leg whose numbers begin at a place of some.
abbrev pub leg_in : List ℕ → ℕ → Leg
leg_in f i = record { order = get_or f i 0; lots = record { 0 = get_or f (i + 1) 0 }; price = record { 0 = get_or f (i + 2) 0 } }

-- ---- writing
abbrev pub leg_bytes : Leg → List ℕ
leg_bytes g = bytes_by leg_fields (leg_numbers g)

unfoldable pub field_bytes : Event → List Leg → List ℕ
unfolding kind_fields bytes_by
field_bytes e legs = bytes_by (kind_fields (kind_number e)) (event_numbers e) ++ cond (has_legs (kind_number e)) (flat_map leg_bytes legs) []

-- The record of an event: its kind, then its fields.
unfoldable pub bytes_of : Event → List Leg → List ℕ
bytes_of e legs = kind_number e ∷ field_bytes e legs

-- The writer tests 3 before a short output (1) and writes nothing on either; bytes past the record stay untouched.
-- The answer gives the number of bytes written.
unfoldable pub write_spec : ℕ → Event → List Leg → List ℕ → Outcome (List ℕ)
write_spec n e legs out =
    let bytes = bytes_of e legs in
    decide
    ((not (members_sound n && event_sound n e legs), RecordUnsound) ∷ (ltb (length out) (length bytes), TableUnsound) ∷ []) out
    (record { answer = Ok (length bytes); after = over 0 bytes out })

-- ---- reading
-- The numbers of a record of a kind, which is the first; those of its legs aside.
unfoldable pub record_numbers : ℕ → List ℕ → List ℕ
unfolding kind_fields numbers_at
record_numbers kind s = numbers_at s kind_byte (Kind ∷ kind_fields kind)

unfoldable pub fields_by_kind : ℕ → List ℕ → Option Event
unfolding event_by_kind record_numbers
fields_by_kind kind s = event_by_kind kind (record_numbers kind s)

-- A record cut or with surplus bytes is unsound; the ranges of its fields are tested after.
unfoldable pub fields_of : List ℕ → Option Event
fields_of s = cond (eqb (length s) (front_length s)) (fields_by_kind (get_or s kind_byte 0) s) None

abbrev pub leg_at : List ℕ → ℕ → Leg
leg_at s i = leg_in (numbers_at s i leg_fields) 0

-- The legs of a record, if it is a proposal.
unfoldable pub legs_of : List ℕ → List Leg
unfolding numbers_at
legs_of s = cond (eqb (get_or s kind_byte 0) proposal_kind) (map (λ j. leg_at s (leg_place j)) (from 0 (get_or s proposal_legs_byte 0))) []

-- An event whose fields are in their ranges.
abbrev pub if_sound : ℕ → List Leg → Option Event → Option Event
if_sound n legs (Some e) = cond (event_sound n e legs) (Some e) None
if_sound n legs None = None

-- What a record says in a ledger of n members, 1 to 32; reader and writer are given that count.
unfoldable pub read_of : ℕ → List ℕ → Option Event
read_of n s = cond (members_sound n) (if_sound n (legs_of s) (fields_of s)) None

-- The paper's number for what a reader answers: a record that is unsound is 3.
abbrev pub reply_of_reading : Option Event → Reply
reply_of_reading (Some e) = record { number = 0; detail = 0 }
reply_of_reading None = reply_of (Err RecordUnsound)

reading_replies : map reply_of_reading (Some (Default 2) ∷ None ∷ []) ≡ record { number = 0; detail = 0 } ∷ record { number = 3; detail = 0 } ∷ []
reading_replies = refl

-- ---- records one after the other
-- The record at the front: its length follows from its kind and, of a proposal, its number of legs.
unfoldable pub front_of : List ℕ → Front
front_of s =
    cond (eqb (length s) 0) Cut
    (cond (eqb (front_length s) 0) UnknownKind
    (cond (leb (front_length s) (length s)) (Whole (front_length s)) Cut))

-- The paper's number for it, with a whole record's length: cut and of unknown kind are both 3.
abbrev pub reply_of_front : Front → Reply
reply_of_front (Whole n) = record { number = 0; detail = n }
reply_of_front Cut = reply_of (Err RecordUnsound)
reply_of_front UnknownKind = reply_of (Err RecordUnsound)

front_replies : map reply_of_front (Whole 15 ∷ Cut ∷ UnknownKind ∷ [])
    ≡ record { number = 0; detail = 15 } ∷ record { number = 3; detail = 0 } ∷ record { number = 3; detail = 0 } ∷ []
front_replies = refl
