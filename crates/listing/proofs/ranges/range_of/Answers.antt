use mathlib.Core.Path.{refl, ◌∙◌}
use Rattle.listing.proofs.ranges.range_of.Goals as goal

pub returns-in-LetterV : goal.returns-in-LetterV
returns-in-LetterV c = c.range.ensures ∙ rw c.in-LetterV.is refl

pub returns-in-LetterJ : goal.returns-in-LetterJ
returns-in-LetterJ c = c.range-in-LetterJ.ensures ∙ rw c.in-LetterJ.is refl

pub returns-in-LetterR : goal.returns-in-LetterR
returns-in-LetterR c = c.range-in-LetterR.ensures ∙ rw c.in-LetterR.is refl

pub returns-in-Version : goal.returns-in-Version
returns-in-Version c = c.range-in-Version.ensures ∙ rw c.in-Version.is refl

pub returns-in-FirstYear : goal.returns-in-FirstYear
returns-in-FirstYear c = c.range-in-FirstYear.ensures ∙ rw c.in-FirstYear.is refl

pub returns-in-StartDay : goal.returns-in-StartDay
returns-in-StartDay c = c.span_range.ensures ∙ rw (c.u16_or_zero.ensures.0, c.in-StartDay.is) refl

pub returns-in-Members : goal.returns-in-Members
returns-in-Members c = c.range-in-Members.ensures ∙ rw c.in-Members.is refl

pub returns-in-HolidayCount : goal.returns-in-HolidayCount
returns-in-HolidayCount c = c.range-in-HolidayCount.ensures ∙ rw c.in-HolidayCount.is refl

pub returns-in-Holiday : goal.returns-in-Holiday
returns-in-Holiday c = c.holiday_range.ensures ∙ rw c.in-Holiday.is refl

pub returns-in-Limit : goal.returns-in-Limit
returns-in-Limit c = c.range-in-Limit.ensures ∙ rw c.in-Limit.is refl

pub returns-in-Kind : goal.returns-in-Kind
returns-in-Kind c = c.range-in-Kind.ensures ∙ rw c.in-Kind.is refl

pub returns-in-Time : goal.returns-in-Time
returns-in-Time c = c.range-in-Time.ensures ∙ rw c.in-Time.is refl

pub returns-in-Member : goal.returns-in-Member
returns-in-Member c = c.range-in-Member.ensures ∙ rw (c.last_member.ensures, c.in-Member.is) refl

pub returns-in-Contract : goal.returns-in-Contract
returns-in-Contract c = c.range-in-Contract.ensures ∙ rw c.in-Contract.is refl

pub returns-in-Side : goal.returns-in-Side
returns-in-Side c = c.range-in-Side.ensures ∙ rw c.in-Side.is refl

pub returns-in-OrderKind : goal.returns-in-OrderKind
returns-in-OrderKind c = c.range-in-OrderKind.ensures ∙ rw c.in-OrderKind.is refl

pub returns-in-Price : goal.returns-in-Price
returns-in-Price c = c.range-in-Price.ensures ∙ rw c.in-Price.is refl

pub returns-in-Lots : goal.returns-in-Lots
returns-in-Lots c = c.range-in-Lots.ensures ∙ rw c.in-Lots.is refl

pub returns-in-Order : goal.returns-in-Order
returns-in-Order c = c.range-in-Order.ensures ∙ rw c.in-Order.is refl

pub returns-in-Low : goal.returns-in-Low
returns-in-Low c = c.range-in-Low.ensures ∙ rw c.in-Low.is refl

pub returns-in-High : goal.returns-in-High
returns-in-High c = c.range-in-High.ensures ∙ rw (c.u32_or_zero.ensures.0, c.in-High.is) refl

pub returns-in-Legs : goal.returns-in-Legs
returns-in-Legs c = c.range-in-Legs.ensures ∙ rw c.in-Legs.is refl

pub returns-in-Ratio : goal.returns-in-Ratio
returns-in-Ratio c = c.range-in-Ratio.ensures ∙ rw c.in-Ratio.is refl
