-- Where a program stands in its buffers, and its exit status.
use Rattle.std.specs.Prelude.{◌≡◌, ℕ, ◌-◌, ◌≤◌, Bool, true, cond, List, length, take, drop, Option, Some, None, Result, Ok, Err}
use Rattle.streams.specs.declared.ending.Ending.{Ending}
use Rattle.streams.specs.declared.ending.Ending.TheVariants.{ReadToEnd, HeaderUnsound, RecordUnsound, ReadFailed, WriteFailed}
use Rattle.streams.specs.declared.progress.Progress.{Progress}
use Rattle.streams.specs.declared.window.Window.{Window}

unfoldable pub status_of : Ending → ℕ
status_of ReadToEnd = 0
status_of HeaderUnsound = 2
status_of RecordUnsound = 3
status_of ReadFailed = 4
status_of WriteFailed = 5

-- Its places lie in order within buffers of these lengths.
pub record Within (inputs outputs : ℕ) (w : Window) : Type 0 where
  pub before : w.from ≤ w.end
  pub inside : w.end ≤ inputs
  pub printed : w.filled ≤ outputs

-- What a window holds of the input.
abbrev pub held : Window → List ℕ → List ℕ
held w input = take (w.end - w.from) (drop w.from input)

-- Whether it is said and the size stay.
pub record SameRun (p r : Progress) : Type 0 where
  pub said : r.is_said ≡ p.is_said
  pub size : r.size ≡ p.size

-- Bytes up to a place from here on, or none; else the read failed.
abbrev pub filled_to : ℕ → ℕ → Result (Option ℕ) Ending → Type 0
filled_to from n (Ok (Some end)) = (from ≤ end) × (end ≤ n)
filled_to from n (Ok None) = Unit {0}
filled_to from n (Err ending) = ending ≡ ReadFailed

-- All is written, or the write failed.
abbrev pub flushed : Result Unit Ending → Type 0
flushed (Ok done) = Unit {0}
flushed (Err ending) = ending ≡ WriteFailed

-- A read or a write failed.
abbrev pub failed : Ending → Type 0
failed ending = ((written : Bool) × (ending ≡ cond written ReadFailed WriteFailed))

-- What was left of the input stands at its front, nothing is behind it where no more comes, and nothing waits to be written.
pub record ReadMore (entry exit : List ℕ) (w r : Window) : Type 0 where
  pub front : r.from ≡ 0
  pub rest : w.end - w.from ≤ r.end
  pub inside : r.end ≤ length entry
  pub kept : take (w.end - w.from) exit ≡ take (w.end - w.from) (drop w.from entry)
  pub last : r.is_last ≡ true → r.end ≡ w.end - w.from
  pub written : r.filled ≡ 0
  pub run : SameRun w.progress r.progress

abbrev pub read_more : List ℕ → List ℕ → Window → Result Window Ending → Type 0
read_more entry exit w (Ok r) = ReadMore entry exit w r
read_more entry exit w (Err ending) = failed ending

pub record WroteOut (w r : Window) : Type 0 where
  pub from : r.from ≡ w.from
  pub end : r.end ≡ w.end
  pub last : r.is_last ≡ w.is_last
  pub written : r.filled ≡ 0
  pub progress : r.progress ≡ w.progress

abbrev pub wrote_out : Window → Result Window Ending → Type 0
wrote_out w (Ok r) = WroteOut w r
wrote_out w (Err ending) = ending ≡ WriteFailed

-- It ends so, or what was printed could not be written.
abbrev pub finished : Ending → Ending → Type 0
finished ending r = ((written : Bool) × (r ≡ cond written ending WriteFailed))
