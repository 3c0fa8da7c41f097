-- Passes in the words of the machine's runs.
use Rattle.std.specs.Prelude.{List, map}
use Rattle.code_epochs.specs.declared.parts.Item.{Item}
use Rattle.code_epochs.specs.declared.parts.Item.TheVariants.{Held, Saw}
use Rattle.rv_play.specs.Ending as ending

abbrev pub item_of : Item → ending.Item
item_of (Held symbol base) = ending.Held symbol base
item_of (Saw address word) = ending.Saw address word

-- the pass over which a call's run goes
abbrev pub items_of : List Item → List ending.Item
items_of pass = map item_of pass
