-- The commands of the program: clap serves their forms, and its matches give their lines.
use Rattle.std.proofs.Common.{◌≡◌, refl, subst, MatchOption, List, Option, Some, None, arith, codes}
use Rattle.clap.specs.Matches.{first_value, found_of}
use Rattle.clap.specs.declared.parser.matches.ArgMatches.{ArgMatches}
use Rattle.command_words.specs.Shapes.{Text, Form, shape_of, text_of}
use Rattle.command_words.specs.Rules.{IsServed, Matches}
use Rattle.command_words.specs.Commands.{Line, run_form, big_form, eval_form, sim_form, dump_form, run_line, big_line, eval_line, sim_line, dump_line, line_in}
use Rattle.command_words.proofs.Given.{given, switched}

pub run_served : IsServed run_form
run_served = record { rules = refl; serves = (refl, refl, omega arith, (refl, refl, omega arith, refl)); simple = λ name. refl }

pub big_served : IsServed big_form
big_served = record { rules = refl; serves = (refl, refl, omega arith, refl); simple = λ name. refl }

pub eval_served : IsServed eval_form
eval_served = record { rules = refl; serves = (refl, refl, omega arith, (refl, refl, omega arith, refl)); simple = λ name. refl }

pub sim_served : IsServed sim_form
sim_served = record { rules = refl; serves = (refl, refl, omega arith, (refl, refl, omega arith, refl)); simple = λ name. refl }

pub dump_served : IsServed dump_form
dump_served = record { rules = refl; serves = (refl, refl, omega arith, refl); simple = λ name. refl }

-- the line of a form's matches is the line of its entries
by_entries : (form : Form) (line : (Text → Option Text) → Option Line) (words : List Text) (m : ArgMatches) (found : Matches form words m)
    → line (first_value (found_of m)) ≡ line (text_of found.0) → line (first_value (found_of m)) ≡ line_in form line words
by_entries form line words m found same = rw found.1 same

pub eval_is : (words : List Text) (m : ArgMatches) → Matches eval_form words m → eval_line (first_value (found_of m)) ≡ line_in eval_form eval_line words
eval_is words m found = by_entries eval_form eval_line words m found
    (rw (given eval_form words m found (codes "MODULE") refl, given eval_form words m found (codes "CALLS") refl, given eval_form words m found (codes "room") refl) refl)

pub dump_is : (words : List Text) (m : ArgMatches) → Matches dump_form words m → dump_line (first_value (found_of m)) ≡ line_in dump_form dump_line words
dump_is words m found = by_entries dump_form dump_line words m found
    (rw (given dump_form words m found (codes "MODULE") refl, given dump_form words m found (codes "level") refl) refl)

pub run_is : (words : List Text) (m : ArgMatches) → Matches run_form words m → run_line (first_value (found_of m)) ≡ line_in run_form run_line words
run_is words m found = by_entries run_form run_line words m found
    (rw (
      given run_form words m found (codes "MODULE") refl,
      given run_form words m found (codes "CALLS") refl,
      given run_form words m found (codes "harts") refl,
      given run_form words m found (codes "workers") refl,
      given run_form words m found (codes "code-words") refl,
      given run_form words m found (codes "room") refl,
      switched run_form words m found (codes "report"),
    ) refl)

pub big_is : (words : List Text) (m : ArgMatches) → Matches big_form words m → big_line (first_value (found_of m)) ≡ line_in big_form big_line words
big_is words m found = by_entries big_form big_line words m found
    (rw (
      given big_form words m found (codes "N") refl,
      given big_form words m found (codes "harts") refl,
      given big_form words m found (codes "workers") refl,
      given big_form words m found (codes "code-words") refl,
      given big_form words m found (codes "room") refl,
      switched big_form words m found (codes "report"),
    ) refl)

pub sim_is : (words : List Text) (m : ArgMatches) → Matches sim_form words m → sim_line (first_value (found_of m)) ≡ line_in sim_form sim_line words
sim_is words m found = by_entries sim_form sim_line words m found
    (rw (
      given sim_form words m found (codes "MODULE") refl,
      given sim_form words m found (codes "CALLS") refl,
      given sim_form words m found (codes "draw") refl,
      given sim_form words m found (codes "steps") refl,
      given sim_form words m found (codes "harts") refl,
      given sim_form words m found (codes "code-words") refl,
      given sim_form words m found (codes "room") refl,
    ) refl)

-- ---- by the matches that a parse gave

pub found_in : (form : Form) (words : List Text) (o : Option ArgMatches) (m : ArgMatches) → o ≡ Some m
    → MatchOption o (shape_of form words ≡ None) (Matches form words) → Matches form words m
found_in form words o m is has = subst (λ x. MatchOption x (shape_of form words ≡ None) (Matches form words)) is has

pub none_in : (form : Form) (line : (Text → Option Text) → Option Line) (words : List Text) (o : Option ArgMatches) → o ≡ None
    → MatchOption o (shape_of form words ≡ None) (Matches form words) → None ≡ line_in form line words
none_in form line words o is has =
    let none : shape_of form words ≡ None = subst (λ x. MatchOption x (shape_of form words ≡ None) (Matches form words)) is has in
    rw none refl
