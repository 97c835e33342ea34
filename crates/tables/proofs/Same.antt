-- Calls that leave the lent tables in their places, one after the other. Assumes nothing.
use mathlib.Core.Path.{refl, ◌∙◌}
use Rattle.tables.specs.declared.lent.LentTables.{LentTables}
use Rattle.tables.specs.Lent.{SameTables}

pub same_none : {a : LentTables} → SameTables a a
same_none = record { head = refl; prices = refl; lots = refl; value = refl; book = refl; lines = refl }

pub same_then : {a b c : LentTables} → SameTables a b → SameTables b c → SameTables a c
same_then f g =
    record {
      head = g.head ∙ f.head;
      prices = g.prices ∙ f.prices;
      lots = g.lots ∙ f.lots;
      value = g.value ∙ f.value;
      book = g.book ∙ f.book;
      lines = g.lines ∙ f.lines;
    }
