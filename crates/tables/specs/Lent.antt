-- The lent tables as the rules see them, and that a call left each in its place.
use Rattle.std.specs.Prelude.{◌≡◌}
use Rattle.rules.specs.Ledger.{Tables, lent}
use Rattle.tables.specs.declared.lent.LentTables.{LentTables}

abbrev pub tables_of : LentTables → Tables
tables_of t = lent t.head.now t.prices.now t.lots.now t.value.now t.book.now t.lines.now

-- Each table is still the one that was lent.
pub record SameTables (before after : LentTables) : Type 0 where
  pub head : after.head.ghost_name ≡ before.head.ghost_name
  pub prices : after.prices.ghost_name ≡ before.prices.ghost_name
  pub lots : after.lots.ghost_name ≡ before.lots.ghost_name
  pub value : after.value.ghost_name ≡ before.value.ghost_name
  pub book : after.book.ghost_name ≡ before.book.ghost_name
  pub lines : after.lines.ghost_name ≡ before.lines.ghost_name
