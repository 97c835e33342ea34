-- Document 01, "The writer tests 3 before a short output (1) and writes nothing on either; bytes past a record stay untouched".
use Rattle.std.specs.Prelude.{ℕ, refl, List, [], ◌∷◌, ◌++◌, replicate}
use Rattle.rules.specs.declared.event.Event.{Event}
use Rattle.rules.specs.declared.event.Event.TheVariants.{Cancel, Proposal, Default, CloseOfDay}
use Rattle.rules.specs.declared.event.Leg.{Leg}
use Rattle.rules.specs.Answers.{Outcome, Reply, reply_of}
use Rattle.rules.specs.Header.{Header, write_header_spec}
use Rattle.rules.specs.Records.{write_spec}
use Rattle.rules.specs.Bytes.{header_example, header_fields}
use Rattle.rules.specs.Computed.{computed}
use Rattle.rules.specs.ExampleRecords.{Each}

-- What a writer answers and leaves.
written : Outcome (List ℕ) → Reply × List ℕ
written o = (reply_of o.answer, o.after)

reply : ℕ → ℕ → Reply
reply n detail = record { number = n; detail = detail }

-- So many bytes of output, each of them 9.
nines : ℕ → List ℕ
nines n = replicate n 9

leg : ℕ → Leg
leg n = record { order = n; lots = record { 0 = 1 }; price = record { 0 = 26000 } }

-- Count of members, event, legs, bytes of output.
record_written : ℕ × Event × List Leg × ℕ → Reply × List ℕ
record_written (n, e, legs, room) = written (write_spec n e legs (nines room))

records_written : Each record_written
    -- a close of day at 61,200 s takes five bytes
    (((3, CloseOfDay 61200, [], 6), (reply 0 5, 7 ∷ 0 ∷ 0 ∷ 239 ∷ 16 ∷ 9 ∷ []))
    ∷ ((3, CloseOfDay 61200, [], 5), (reply 0 5, 7 ∷ 0 ∷ 0 ∷ 239 ∷ 16 ∷ []))
    ∷ ((3, CloseOfDay 61200, [], 4), (reply 1 0, nines 4))
    -- 3 before 1
    ∷ ((3, CloseOfDay 86400, [], 6), (reply 3 0, nines 6))
    ∷ ((3, CloseOfDay 86400, [], 4), (reply 3 0, nines 4))
    -- a count of 1 to 32 members
    ∷ ((0, CloseOfDay 61200, [], 4), (reply 3 0, nines 4))
    ∷ ((1, CloseOfDay 61200, [], 4), (reply 1 0, nines 4))
    ∷ ((32, CloseOfDay 61200, [], 4), (reply 1 0, nines 4))
    ∷ ((33, CloseOfDay 61200, [], 4), (reply 3 0, nines 4))
    -- an order number that is no u32
    ∷ ((3, Cancel (record { time = 0; member = 0; order = 4294967295 }), [], 0), (reply 1 0, []))
    ∷ ((3, Cancel (record { time = 0; member = 0; order = 4294967296 }), [], 0), (reply 3 0, []))
    ∷ ((3, Proposal 2, leg 1 ∷ leg 4294967295 ∷ [], 0), (reply 1 0, []))
    ∷ ((3, Proposal 2, leg 1 ∷ leg 4294967296 ∷ [], 0), (reply 3 0, []))
    -- legs other than as many as the proposal says, and legs of a default
    ∷ ((3, Proposal 2, leg 1 ∷ [], 0), (reply 3 0, []))
    ∷ ((3, Proposal 2, leg 1 ∷ leg 2 ∷ leg 3 ∷ [], 0), (reply 3 0, []))
    ∷ ((3, Default 2, leg 1 ∷ [], 0), (reply 3 0, []))
    ∷ ((3, Default 2, [], 0), (reply 1 0, []))
    ∷ [])
unfolding computed written reply nines leg record_written
records_written = refl

-- ---- headers: 2 before 1
-- With two members, and three limits.
two_members : Header
two_members =
    record { first_year = 2021; start_day = 369; members = 2; holidays = 370 ∷ 512 ∷ []; limits = 1000 ∷ 66051 ∷ 100000 ∷ [] }

headers_written : Each (λ (x : Header × ℕ). written (write_header_spec x.0 (nines x.1)))
    (((header_fields, 28), (reply 0 27, header_example ++ (9 ∷ [])))
    ∷ ((header_fields, 26), (reply 1 0, nines 26))
    ∷ ((two_members, 28), (reply 2 0, nines 28))
    ∷ ((two_members, 26), (reply 2 0, nines 26))
    ∷ [])
unfolding computed write_header_spec written reply nines two_members
headers_written = refl
