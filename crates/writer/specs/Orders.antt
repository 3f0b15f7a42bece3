-- The order of a cut, as the rules speak of it.
use Rattle.std.specs.Prelude.{ℕ}
use Rattle.cut_rules.specs.Cut.{Cut}
use Rattle.cut_rules.specs.Laws.{Grouped, GoodChoice}
use Rattle.writer.specs.declared.order.Order.{Order}
use Rattle.writer.specs.Promises.{cut_of}

abbrev pub order_of : Order → Cut
order_of o = cut_of o.recording.now o.channels o.first o.last o.mask

-- with which nothing is wrong: neither 22 nor 23 is its refusal
pub record GoodOrder (q : Cut) : Type 0 where
  pub count : ℕ
  pub grouped : Grouped q count
  pub choice : GoodChoice q count
