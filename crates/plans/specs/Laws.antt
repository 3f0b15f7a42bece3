-- The plan once more, by what it comes to. Proofs are in proofs/.
--   Plan-plays     whatever is stored, it comes to what the rules make of the event
--   Plan-ordinary  only an event that is no power-up moves a value or stores one
--   Plan-within    and then on a core whose mask and cursor are those given, or a cursor set to 0
use Rattle.std.specs.Prelude.{ℕ, ◌≡◌, Bool, List}
use Rattle.rules.specs.declared.Core.{Core}
use Rattle.rules.specs.declared.Event.{Event}
use Rattle.plans.specs.Parts.{carried, MovesOrStores, Within}
use Rattle.plans.specs.Plan.{planned}
use Rattle.rules.specs.Play.{play}
use Rattle.rules.specs.Laws.Refusals.{Ordinary}

abbrev pub Plan-plays : Type 0
Plan-plays =
    (c : Core) (e : Event) (buf : List ℕ) (full : Bool)
    → play c buf full e ≡ carried (planned c e).act (planned c e).core buf full

abbrev pub Plan-ordinary : Type 0
Plan-ordinary = (c : Core) (e : Event) → MovesOrStores (planned c e).act → Ordinary e

abbrev pub Plan-within : Type 0
Plan-within = (c : Core) (e : Event) → MovesOrStores (planned c e).act → Within c (planned c e).core
