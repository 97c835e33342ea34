-- What holds after every list of calls from a fresh ledger, beside demand 3.
use Rattle.std.specs.Prelude.{ℕ, ◌<◌, ◌≡◌, true, false, not, List, [], ◌∷◌, T}
use Rattle.arith.specs.Lists.{All}
use Rattle.rules.specs.Ranges.{contract_count}
use Rattle.rules.specs.declared.order.Order.{Order}
use Rattle.rules.specs.declared.order.Side.TheVariants.{Buy, Sell}
use Rattle.rules.specs.Answers.{reply_of}
use Rattle.rules.specs.ContractTerms.{open_on}
use Rattle.rules.specs.Header.{Header, calendar_of, header_of, begins_with_header}
use Rattle.rules.specs.Ledger.{Tables, Line, with_lines, day, lots_run, defaulted, ggf, orders, resting, line_run, ledger_short, lines_short}
use Rattle.rules.specs.Refusals.{damaged, make_spec}
use Rattle.rules.specs.Accounts.{Call, call_spec, after, log, lists_day}

-- P of the header, the ledger, the log and the list's day, after every list of calls: the list starts at a ledger fresh
-- from a sound header, in lent tables of sufficient length, whatever they hold. Demand 3 is `AfterEveryList Agrees`.
abbrev pub AfterEveryList : (Header → Tables → List Line → ℕ → Type 0) → Type 0
AfterEveryList P =
    (header : List ℕ) (t : Tables) (calls : List Call)
    → T (begins_with_header header)
    → T (not (ledger_short t))
    → let h = header_of header in
    let start = (make_spec t header).after in
    P h (after start calls) (log start calls) (lists_day h h.start_day start calls)

-- The ledger is neither short nor damaged: its own records never damage it.
abbrev pub NotDamaged : Tables → Type 0
NotDamaged t = (ledger_short t ≡ false) × (damaged t ≡ false)

abbrev pub NeverDamaged : Type 0
NeverDamaged = AfterEveryList (λ h t ls d. NotDamaged t)

-- Number 1 is answered for a short line table alone.
abbrev pub OneForShortLines : Tables → Type 0
OneForShortLines t = (call : Call) → (reply_of (call_spec t call).answer).number ≡ 1 → lines_short (with_lines call.lines t) ≡ true

abbrev pub OneForLinesAlone : Type 0
OneForLinesAlone = AfterEveryList (λ h t ls d. OneForShortLines t)

-- An order rests only in a contract that is open on the list's day.
abbrev pub RestInOpen : Header → Tables → ℕ → Type 0
RestInOpen h t d = All (λ o. open_on (calendar_of h) d o.contract ≡ true) (orders t)

abbrev pub OrdersRestInOpen : Type 0
OrdersRestInOpen = AfterEveryList (λ h t ls d. RestInOpen h t d)

-- A buy is below a sell of the same contract.
abbrev pub Below : Order → Order → Type 0
Below buy sell = buy.side ≡ Buy → sell.side ≡ Sell → buy.contract ≡ sell.contract → buy.price.0 < sell.price.0

-- The book is never crossed: in every contract each resting buy is below each resting sell.
abbrev pub Uncrossed : List Order → Type 0
Uncrossed os = All (λ buy. All (Below buy) os) os

abbrev pub NeverCrossed : Type 0
NeverCrossed = AfterEveryList (λ h t ls d. Uncrossed (resting t))

-- Each order's number is below those of the orders past it in the book.
abbrev pub RisingNumbers : List Order → Type 0
RisingNumbers [] = Unit {0}
RisingNumbers (o ∷ os) = All (λ x. o.number < x.number) os × RisingNumbers os

abbrev pub NumbersRise : Type 0
NumbersRise = AfterEveryList (λ h t ls d. RisingNumbers (orders t))

-- No order of a defaulted member rests.
abbrev pub NoneDefaulted : Tables → Type 0
NoneDefaulted t = All (λ o. defaulted t o.member ≡ false) (orders t)

abbrev pub DefaultedNeverRest : Type 0
DefaultedNeverRest = AfterEveryList (λ h t ls d. NoneDefaulted t)

-- The lots run is the sum of absolute lots over the log.
abbrev pub RunIsLogged : Type 0
RunIsLogged = AfterEveryList (λ h t ls d. lots_run t ≡ line_run ls)

-- The ledger's day is the list's day.
abbrev pub DayIsTheLists : Type 0
DayIsTheLists = AfterEveryList (λ h t ls d. day t ≡ d)

-- A GGF once found never becomes 0 again, whatever calls follow: t are any tables, so also those that a list leads to.
abbrev pub GgfsKept : Tables → Tables → Type 0
GgfsKept t u = (c : ℕ) → c < contract_count → 0 < ggf t c → 0 < ggf u c

abbrev pub GgfNeverLost : Type 0
GgfNeverLost = (t : Tables) (calls : List Call) → GgfsKept t (after t calls)
