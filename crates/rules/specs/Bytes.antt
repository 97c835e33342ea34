-- A record of each kind and a header, written out by hand from document 01's field list. Their values change if their bytes are
-- exchanged, so that a slip in both reader and writer is seen.
use Rattle.std.specs.Prelude.{ℕ, ◌≡◌, refl, true, false, take, Some, None, Err}
use mathlib.Core.List.{List, [], ◌∷◌, ◌++◌, map, flat_map}
use Rattle.arith.specs.Lists.{from, every}
use Rattle.rules.specs.declared.refusal.Refusal.TheVariants.{RecordUnsound}
use Rattle.rules.specs.declared.event.Event.{Event}
use Rattle.rules.specs.declared.event.Event.TheVariants.{Submit, Cancel, DayLimits, Proposal, Default, CloseOut, CloseOfDay}
use Rattle.rules.specs.declared.event.Leg.{Leg}
use Rattle.rules.specs.declared.event.OrderKind.TheVariants.{Resting, Oeye, Teye}
use Rattle.rules.specs.declared.order.Side.TheVariants.{Buy, Sell}
use Rattle.rules.specs.Header.{u16_at, u32_at, u16_bytes, u32_bytes, u16s_at, u32s_at, Header, header_of, header_bytes, begins_with_header}
use Rattle.rules.specs.Computed.{computed}
use Rattle.rules.specs.Records.{record_length, event_sound, field_bytes, bytes_of, write_spec, fields_by_kind, fields_of, legs_of, read_of}

-- 256 is 01 00.
two_bytes : u16_at (1 ∷ 0 ∷ []) 0 ≡ 256
unfolding u16_at
two_bytes = refl

-- A record with what it says in a ledger of three members.
pub record Example : Type 0 where
  pub bytes : List ℕ
  pub event : Event
  pub legs : List Leg

abbrev pub examples : List Example
examples =
    -- submit: time 66,051 s, member 2, contract 17, sell, TEYE, 258,000 kuruş, 100 lots
    record {
      bytes = 1 ∷ 0 ∷ 1 ∷ 2 ∷ 3 ∷ 2 ∷ 17 ∷ 1 ∷ 2 ∷ 0 ∷ 3 ∷ 239 ∷ 208 ∷ 0 ∷ 100 ∷ [];
      event =
          Submit
          (record
          { time = 66051; member = 2; contract = 17; side = Sell; kind = Teye; price = record { 0 = 258000 }; lots = record { 0 = 100 } });
      legs = [];
    }
    -- submit: time 256 s, member 0, contract 101, buy, OEYE, 1,000,000 kuruş, 1 lot
    ∷ record {
      bytes = 1 ∷ 0 ∷ 0 ∷ 1 ∷ 0 ∷ 0 ∷ 101 ∷ 0 ∷ 1 ∷ 0 ∷ 15 ∷ 66 ∷ 64 ∷ 0 ∷ 1 ∷ [];
      event =
          Submit
          (record
          { time = 256; member = 0; contract = 101; side = Buy; kind = Oeye; price = record { 0 = 1000000 }; lots = record { 0 = 1 } });
      legs = [];
    }
    -- submit: time 4,660 s, member 1, contract 34, buy, resting, 66,051 kuruş, 7 lots
    ∷ record {
      bytes = 1 ∷ 0 ∷ 0 ∷ 18 ∷ 52 ∷ 1 ∷ 34 ∷ 0 ∷ 0 ∷ 0 ∷ 1 ∷ 2 ∷ 3 ∷ 0 ∷ 7 ∷ [];
      event =
          Submit
          (record
          { time = 4660; member = 1; contract = 34; side = Buy; kind = Resting; price = record { 0 = 66051 }; lots = record { 0 = 7 } });
      legs = [];
    }
    -- cancel: time 86,399 s, member 2, order number 16,909,060
    ∷ record {
      bytes = 2 ∷ 0 ∷ 1 ∷ 81 ∷ 127 ∷ 2 ∷ 1 ∷ 2 ∷ 3 ∷ 4 ∷ [];
      event = Cancel (record { time = 86399; member = 2; order = 16909060 });
      legs = [];
    }
    -- day limits: contract 5, low 256, high 65,536
    ∷ record {
      bytes = 3 ∷ 5 ∷ 0 ∷ 0 ∷ 1 ∷ 0 ∷ 0 ∷ 1 ∷ 0 ∷ 0 ∷ [];
      event = DayLimits (record { contract = 5; low = record { 0 = 256 }; high = record { 0 = 65536 } });
      legs = [];
    }
    -- synthetic proposal: order 1, 2 lots at 256; order 65,536, 3 lots at 65,537
    ∷ record {
      bytes = 4 ∷ 2 ∷ 0 ∷ 0 ∷ 0 ∷ 1 ∷ 0 ∷ 2 ∷ 0 ∷ 0 ∷ 1 ∷ 0 ∷ 0 ∷ 1 ∷ 0 ∷ 0 ∷ 0 ∷ 3 ∷ 0 ∷ 1 ∷ 0 ∷ 1 ∷ [];
      event = Proposal 2;
      legs =
          record { order = 1; lots = record { 0 = 2 }; price = record { 0 = 256 } }
          ∷ record { order = 65536; lots = record { 0 = 3 }; price = record { 0 = 65537 } }
          ∷ [];
    }
    -- default: member 2
    ∷ record { bytes = 5 ∷ 2 ∷ []; event = Default 2; legs = [] }
    -- close-out: contract 34, ratio 256 per mille
    ∷ record { bytes = 6 ∷ 34 ∷ 1 ∷ 0 ∷ []; event = CloseOut (record { contract = 34; ratio = 256 }); legs = [] }
    -- close of day: time 61,200 s
    ∷ record { bytes = 7 ∷ 0 ∷ 0 ∷ 239 ∷ 16 ∷ []; event = CloseOfDay 61200; legs = [] }
    ∷ []

-- Reading the bytes gives the event and its legs, and writing them gives the bytes.
pub examples_read : map (λ x. read_of 3 x.bytes) examples ≡ map (λ x. Some x.event) examples
unfolding read_of fields_of fields_by_kind record_length legs_of event_sound u16_at u32_at from every
examples_read = refl

pub examples_legs : map (λ x. legs_of x.bytes) examples ≡ map (λ x. x.legs) examples
unfolding legs_of u16_at u32_at from
examples_legs = refl

pub examples_written : map (λ x. bytes_of x.event x.legs) examples ≡ map (λ x. x.bytes) examples
unfolding bytes_of field_bytes u16_bytes u32_bytes flat_map
examples_written = refl

-- The third of them with side 2, and with order kind 3: neither is a record.
no_third_side : read_of 3 (1 ∷ 0 ∷ 0 ∷ 18 ∷ 52 ∷ 1 ∷ 34 ∷ 2 ∷ 0 ∷ 0 ∷ 1 ∷ 2 ∷ 3 ∷ 0 ∷ 7 ∷ []) ≡ None
unfolding computed
no_third_side = refl

no_fourth_order_kind : read_of 3 (1 ∷ 0 ∷ 0 ∷ 18 ∷ 52 ∷ 1 ∷ 34 ∷ 0 ∷ 3 ∷ 0 ∷ 1 ∷ 2 ∷ 3 ∷ 0 ∷ 7 ∷ []) ≡ None
unfolding computed
no_fourth_order_kind = refl

-- A time of 86,400 s and no room for a byte: the writer answers 3, not 1.
three_before_one : write_spec 3 (CloseOfDay 86400) [] [] ≡ record { answer = Err RecordUnsound; after = [] }
unfolding computed
three_before_one = refl

-- VJR, version 1, first year 2021, start day 369, three members, holidays 370 and 512, limits 1,000, 66,051 and 100,000.
abbrev pub header_example : List ℕ
header_example =
    86 ∷ 74 ∷ 82 ∷ 0 ∷ 1 ∷ 7 ∷ 229 ∷ 1 ∷ 113 ∷ 3 ∷ 2 ∷ 1 ∷ 114 ∷ 2 ∷ 0 ∷ 0 ∷ 0 ∷ 3 ∷ 232 ∷ 0 ∷ 1 ∷ 2 ∷ 3 ∷ 0 ∷ 1 ∷ 134 ∷ 160 ∷ []

abbrev pub header_fields : Header
header_fields =
    record { first_year = 2021; start_day = 369; members = 3; holidays = 370 ∷ 512 ∷ []; limits = 1000 ∷ 66051 ∷ 100000 ∷ [] }

pub header_read : header_of header_example ≡ header_fields
unfolding header_of u16_at u32_at u16s_at u32s_at from
header_read = refl

pub header_written : header_bytes header_fields ≡ header_example
unfolding header_bytes u16_bytes u32_bytes flat_map
header_written = refl

-- It is sound, also before records; cut by a byte it is not.
pub header_begins : map begins_with_header (header_example ∷ (header_example ++ (5 ∷ 2 ∷ [])) ∷ take 26 header_example ∷ []) ≡ true ∷ true ∷ false ∷ []
unfolding computed
header_begins = refl
