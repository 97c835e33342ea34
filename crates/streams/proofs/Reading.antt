-- What a read leaves of the input, and places after a read or a write. Assumes nothing.
use Rattle.std.proofs.Common.{◌≡◌, ℕ, ◌+◌, ◌-◌, ◌≤◌, List, ◌++◌, length, take, drop, sym, ap, ◌∙◌, arith, take-append-drop, length-take, length-take-le, take-take, drop-drop, take-add, drop_at}
use native.Mathlib.Nat.{min-le_left, min-le_right}
use lib.Seq.{take-append-add, take-append_seam}
use Rattle.arith.specs.Lists.{over}
use Rattle.text.specs.Wrote.{Wrote}
use Rattle.std.specs.Prelude.{Result, Ok}
use Rattle.streams.specs.declared.ending.Ending.{Ending}
use Rattle.streams.specs.declared.progress.Progress.{Progress}
use Rattle.streams.specs.declared.window.Window.{Window}
use Rattle.streams.specs.Windows.{Within, held, SameRun, ReadMore, read_more, WroteOut, wrote_out}

-- What a window holds of the input.
pub part_length : (w : Window) (l : List ℕ) → length (held w l) ≤ w.end - w.from
part_length w l = rw length-take (min-le_left (w.end - w.from) (length (drop w.from l)))

drop_of_take : (m n : ℕ) (l : List ℕ) → m ≤ length (take n l) → drop m (take n l) ≡ take (n - m) (drop m l)
drop_of_take m n l h =
    let short = rw length-take at h in
    let below : m ≤ n = omega (arith, short, min-le_left n (length l)) in
    let fits : m ≤ length l = omega (arith, short, min-le_right n (length l)) in
    let split : n ≡ m + (n - m) = omega arith in
    ap (λ x. drop m (take x l)) split ∙ (ap (drop m) (take-add m (n - m) l) ∙ drop_at (take m l) (take (n - m) (drop m l)) m (length-take-le m l fits))

-- So much of it is run.
pub held_past : (w : Window) (l : List ℕ) (used : ℕ) → used ≤ length (held w l)
    → take (w.end - (w.from + used)) (drop (w.from + used) l) ≡ drop used (held w l)
held_past w l used h =
    let less : w.end - w.from - used ≡ w.end - (w.from + used) = omega arith in
    rw (← less, ← drop-drop used w.from l) (sym (drop_of_take used (w.end - w.from) (drop w.from l) h))

-- The bytes that a read brought stand behind those that were left.
pub held_read : {entry exit : List ℕ} {w r : Window} → ReadMore entry exit w r → held r exit ≡ held w entry ++ drop (w.end - w.from) (take r.end exit)
held_read {entry} {exit} {w} {r} m =
    let all : r.end - 0 ≡ r.end = omega arith in
    let front : take (w.end - w.from) (take r.end exit) ≡ held w entry = take-take (w.end - w.from) r.end exit m.rest ∙ m.kept in
    rw (m.front, all, ← front) (sym (take-append-drop (w.end - w.from) (take r.end exit)))

-- What is printed, after a text was written behind it.
pub printed_on : {place answer : ℕ} {text entry exit : List ℕ} → Wrote place text entry exit answer → place ≤ length entry → take answer exit ≡ take place entry ++ text
unfolding over
printed_on {place} {answer} {text} {entry} {exit} w h =
    let behind : List ℕ = drop (place + length text) entry in
    let front : length (take place entry) ≡ place = length-take-le place entry h in
    rw (w.after, w.bytes)
    (ap (λ x. take (x + length text) (take place entry ++ (text ++ behind))) (sym front)
    ∙ take-append-add (take place entry) (text ++ behind) (length text) ∙ ap (λ x. take place entry ++ x) (take-append_seam text behind))

pub same_run : {p q r : Progress} → SameRun p q → SameRun q r → SameRun p r
same_run a b = record { said = b.said ∙ a.said; size = b.size ∙ a.size }

-- ---- by what a read or a write answered
pub read_moved : (x : Result Window Ending) (entry exit : List ℕ) (w : Window) {r : Window} → read_more entry exit w x → x ≡ Ok r → ReadMore entry exit w r
read_moved x entry exit w h q = rw q at h

pub written_moved : (x : Result Window Ending) (w : Window) {r : Window} → wrote_out w x → x ≡ Ok r → WroteOut w r
written_moved x w h q = rw q at h

pub read_within : (x : Result Window Ending) (entry exit : List ℕ) (w : Window) {r : Window} {inputs outputs : ℕ} → read_more entry exit w x → length entry ≡ inputs → x ≡ Ok r → Within inputs outputs r
read_within x entry exit w {r} h l q =
    let m = read_moved x entry exit w h q in
    record { before = omega (arith, m.front); inside = omega (arith, m.inside); printed = omega (arith, m.written) }

pub written_within : (x : Result Window Ending) (w : Window) {r : Window} {inputs outputs : ℕ} → wrote_out w x → Within inputs outputs w → x ≡ Ok r → Within inputs outputs r
written_within x w {r} h s q =
    let m = written_moved x w h q in
    record { before = omega (arith, m.from, m.end, s.before); inside = omega (arith, m.end, s.inside); printed = omega (arith, m.written) }
