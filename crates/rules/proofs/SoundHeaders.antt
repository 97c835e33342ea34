-- What a sound header gives. Assumes nothing.
use Prim.Native.Nat.{ℕ, ◌≤◌}
use mathlib.Core.Path.{◌≡◌}
use mathlib.Core.Bool.{true, ◌&&◌}
use mathlib.Core.List.{List}
use lib.Dec.{eqb, leb}
use lib.ListN.{length, take}
use borrow.Author.Tests.{leb-true, eqb-true}
use Rattle.arith.specs.Lists.{All, every}
use Rattle.arith.proofs.Alls.{all_map, every_all}
use Rattle.arith.proofs.Tests.{and_left, and_right}
use Rattle.rules.specs.Ranges.{least_first_year, most_first_year, most_holidays, most_members, most_limit}
use Rattle.rules.specs.Days.{Calendar, in_span}
use Rattle.rules.specs.Header.{Header, calendar_of, rising, calendar_sound, members_sound, limit_sound, day_sound, header_sound, same_bytes, letters_and_version, header_length, header_of, begins_with_header}
use Rattle.rules.proofs.SoundEvents.{InRange, in_range}

pub record SoundCalendar (k : Calendar) : Type 0 where
  pub years : InRange least_first_year k.first_year most_first_year
  pub holidays≤ : length k.holidays ≤ most_holidays

pub calendar_gives : (k : Calendar) → calendar_sound k ≡ true → SoundCalendar k
unfolding calendar_sound
calendar_gives k e =
    let years = leb least_first_year k.first_year && leb k.first_year most_first_year in
    let few = leb (length k.holidays) most_holidays in
    let rise = rising k.holidays in
    let two = and_left (years && few) rise (and_left (years && few && rise) (every (in_span k) k.holidays) e) in
    record {
      years = in_range least_first_year k.first_year most_first_year (and_left years few two);
      holidays≤ = leb-true (length k.holidays) most_holidays (and_right years few two);
    }

pub record SoundHeader (h : Header) : Type 0 where
  pub calendar_sound_holds : calendar_sound (calendar_of h) ≡ true
  pub holidays≤ : length h.holidays ≤ most_holidays
  pub start_sound : day_sound (calendar_of h) h.start_day ≡ true
  pub members_range : InRange 1 h.members most_members
  pub one_limit : length h.limits ≡ h.members
  pub limits≤ : All (λ l. l ≤ most_limit) h.limits

pub header_gives : (h : Header) → header_sound h ≡ true → SoundHeader h
unfolding header_sound
header_gives h e =
    let k = calendar_of h in
    let days = calendar_sound k in
    let start = day_sound k h.start_day in
    let size = members_sound h.members in
    let one = eqb (length h.limits) h.members in
    let low = every limit_sound h.limits in
    let four = and_left (days && start && size && one) low e in
    let three = and_left (days && start && size) one four in
    let two = and_left (days && start) size three in
    record {
      calendar_sound_holds = and_left days start two;
      holidays≤ = (calendar_gives k (and_left days start two)).holidays≤;
      start_sound = and_right days start two;
      members_range = in_range 1 h.members most_members (and_right (days && start) size three);
      one_limit = eqb-true (length h.limits) h.members (and_right (days && start && size) one four);
      limits≤ = all_map (λ l. limit_sound l ≡ true) (λ l. l ≤ most_limit) h.limits (λ l q. leb-true l most_limit q)
          (every_all limit_sound h.limits (and_right (days && start && size && one) low e));
    }

pub begun : (s : List ℕ) → begins_with_header s ≡ true → header_sound (header_of s) ≡ true
unfolding begins_with_header
begun s e = and_right (leb 11 (length s) && same_bytes (take 5 s) letters_and_version && leb (header_length s) (length s)) (header_sound (header_of s)) e
