-- What clap finds among the arguments of a form, by long name, id, short name and place.
use Rattle.std.proofs.Common.{◌≡◌, ◌||◌, ℕ, Bool, cond, true, false, suc, refl, ap, List, [], ◌∷◌, ◌++◌, map, Option, Some, None}
use Rattle.std.specs.Option.{option_map}
use Rattle.std.specs.Str.{bytes_eq}
use Rattle.clap.specs.Walk.{Rule, arg_by_id, arg_by_long, arg_by_short}
use Rattle.command_words.specs.Shapes.{Text, Form, option_of}
use Rattle.command_words.specs.Rules.{built_option, positionals_from, built_rules}

no_long : (place : ℕ) (names : List Text) (name : Text) → arg_by_long (positionals_from place names) name ≡ None
no_long place [] name = refl
no_long place (n ∷ names) name = no_long (suc place) names name

long_among : (options : List (Text × Bool)) (names : List Text) (name : Text)
    → arg_by_long (map built_option options ++ positionals_from 1 names) name ≡ option_map built_option (option_of options name)
long_among [] names name = no_long 1 names name
long_among (o ∷ options) names name = go (bytes_eq o.0 name) (long_among options names name)
  where
    go : (b : Bool) → arg_by_long (map built_option options ++ positionals_from 1 names) name ≡ option_map built_option (option_of options name)
        → cond (b || false) (Some (built_option o)) (arg_by_long (map built_option options ++ positionals_from 1 names) name)
        ≡ option_map built_option (cond b (Some o) (option_of options name))
    go true e = refl
    go false e = e

pub by_long : (form : Form) (name : Text) → arg_by_long (built_rules form) name ≡ option_map built_option (option_of form.options name)
by_long form name = long_among form.options form.positionals name

id_step : (x o : Text × Bool) (b : Bool) (options : Option (Text × Bool)) (rules : Option Rule) → (options ≡ Some o → rules ≡ Some (built_option o))
    → cond b (Some x) options ≡ Some o → cond (b) (Some (built_option x)) rules ≡ Some (built_option o)
id_step x o true options rules next e = ap (option_map built_option) e
id_step x o false options rules next e = next e

id_among : (options : List (Text × Bool)) (names : List Text) (name : Text) (o : Text × Bool) → option_of options name ≡ Some o
    → arg_by_id (map built_option options ++ positionals_from 1 names) name ≡ Some (built_option o)
id_among [] names name o found = absurd (cc)
id_among (x ∷ options) names name o found = id_step x o (bytes_eq x.0 name) _ _ (λ e. id_among options names name o e) found

pub by_id : (form : Form) (name : Text) (o : Text × Bool) → option_of form.options name ≡ Some o
    → arg_by_id (built_rules form) name ≡ Some (built_option o)
by_id form name o found = id_among form.options form.positionals name o found

no_short : (place : ℕ) (names : List Text) (x : ℕ) → arg_by_short (positionals_from place names) x ≡ None
no_short place [] x = refl
no_short place (n ∷ names) x = no_short (suc place) names x

short_among : (options : List (Text × Bool)) (names : List Text) (x : ℕ)
    → arg_by_short (map built_option options ++ positionals_from 1 names) x ≡ None
short_among [] names x = no_short 1 names x
short_among (o ∷ options) names x = short_among options names x

pub by_short : (form : Form) (x : ℕ) → arg_by_short (built_rules form) x ≡ None
by_short form x = short_among form.options form.positionals x
