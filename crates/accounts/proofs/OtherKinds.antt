-- Records that print no lines but the close of day, and the close-out.
use mathlib.Core.Path.{◌≡◌, refl, sym, ap, subst, ◌∙◌}
use mathlib.Core.Bool.{Bool, true, false, not, ◌&&◌}
use mathlib.Core.List.{List, []}
use Prim.Native.Nat.{ℕ, ◌+◌, ◌<◌}
use native.Mathlib.Omega.{arith}
use lib.Dec.{eqb, ltb}
use lib.ListN.{length, set}
use Rattle.arith.specs.Lists.{All, kept}
use Rattle.arith.proofs.Alls.{all_map, all_kept}
use Rattle.rules.specs.Ledger.{marks_from, time_place, default_mark, order_count_place}
use Rattle.rules.specs.Ranges.{contract_count}
use Rattle.rules.specs.declared.event.CloseOutTerms.{CloseOutTerms}
use Rattle.rules.specs.declared.order.Order.{Order}
use Rattle.rules.specs.ContractTerms.{has_cascaded}
use Rattle.rules.specs.Header.{Header, calendar_of}
use Rattle.rules.specs.Ledger.{Tables, is_open, with_head, with_prices, orders, with_orders, timed, booked}
use Rattle.rules.specs.Default.{sum_of, lots_remaining, weights, close_out_lines, close_out_booked, default_booked}
use Rattle.accounts.proofs.Lines.{Fits, hour_total}
use Rattle.accounts.proofs.Heads.{SameHeader, changing, of_member, same_header, then_same, set_other}
use Rattle.accounts.proofs.Holds.{Fair}
use Rattle.accounts.proofs.Runs.{InOpen, Runs, Sound, orders_same}
use Rattle.accounts.proofs.Written.{orders_written}
use Rattle.accounts.proofs.Calls.{Does, booked_does}
use Rattle.accounts.proofs.CloseOutLines.{close_out_fits, close_out_contract, close_out_balanced}
use Rattle.accounts.proofs.Submits.{open_here, open_not_cascaded, timed_header, timed_rows}

no_lines : (h : Header) (K : ℕ → Bool) → Fair h K []
unfolding hour_total
no_lines h K = record { fits = tt; balanced = λ x hour b. refl; clear = tt }

module _ (h : Header) (d : ℕ) (t : Tables) (r : Runs h d t) (s : Sound t) where
  -- a record that takes orders out of the book: u is t with a head that kept the header
  removed_does : (u : Tables) (p : Order → Bool) → SameHeader time_place t.head u.head → u.lots ≡ t.lots → u.value ≡ t.value
      → Does h d d t (booked [] (with_orders (kept p (orders t)) u))
  unfolding with_orders
  removed_does u p a e v =
      booked_does h d [] t (with_orders (kept p (orders t)) u) r s
      (then_same a (set_other time_place u.head order_count_place (length (kept p (orders t))) (omega arith) (changing (omega arith) (omega arith))))
      (rw (orders_written (kept p (orders t)) u (omega (arith, a.longer, s.head_long)))
      (all_map (λ o. InOpen h d o × (p o ≡ true)) (InOpen h d) (kept p (orders t)) (λ o q. q.0) (all_kept (InOpen h d) p (orders t) r.resting)))
      e v (no_lines h (has_cascaded (calendar_of h) d))

  pub cancel_does : (n : ℕ) (p : Order → Bool) → Does h d d t (booked [] (with_orders (kept p (orders t)) (timed n t)))
  cancel_does n p = removed_does (timed n t) p (timed_header h d t r s n) (timed_rows n t).0 (timed_rows n t).1

  pub default_does : (m : ℕ) → Does h d d t (default_booked t m)
  unfolding default_booked
  default_does m = removed_does (with_head (set t.head (marks_from + m) default_mark) t) (λ o. not (eqb o.member m)) (set_other time_place t.head (marks_from + m) 1 (omega arith) (of_member (omega arith))) refl refl

  -- low and high are in the prices alone
  pub limits_does : (l : List ℕ) → Does h d d t (booked [] (with_prices l t))
  limits_does l =
      booked_does h d [] t (with_prices l t) r s (same_header time_place t.head) (rw (orders_same t (with_prices l t) refl refl) r.resting) refl refl
      (no_lines h (has_cascaded (calendar_of h) d))

  pub close_out_does : (e : CloseOutTerms) → is_open t e.contract ≡ true → e.contract < contract_count
      → (ltb 0 (lots_remaining t e.contract) && eqb (sum_of (weights t e)) 0) ≡ false → Does h d d t (close_out_booked t e)
  unfolding close_out_booked
  close_out_does e o c< w =
      booked_does h d (close_out_lines t e) t t r s (same_header time_place t.head) r.resting refl refl
      (record {
        fits = subst (λ n. All (Fits n) (close_out_lines t e)) r.size (close_out_fits t e c<);
        balanced = λ x hour b. close_out_balanced t e w (calendar_of h) x hour;
        clear = all_map (λ l. l.contract ≡ e.contract) (λ l. has_cascaded (calendar_of h) d l.contract ≡ false) (close_out_lines t e)
            (λ l q. ap (has_cascaded (calendar_of h) d) q ∙ open_not_cascaded (calendar_of h) d e.contract (sym (open_here h d t e.contract r) ∙ o)) (close_out_contract t e);
      })
