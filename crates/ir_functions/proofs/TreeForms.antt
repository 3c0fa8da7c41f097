-- A fault of syntax is no fault of a tree of which each part fits.
use Rattle.std.proofs.Common.{◌≡◌, ℕ, List, [], Option, Some, None, Result, Ok, Err, inl, inr}
use Rattle.ir_tree.specs.declared.tree.NamedType.{NamedType}
use Rattle.ir_tree.specs.declared.tree.Global.{Global}
use Rattle.ir_tree.specs.declared.tree.Function.{Function}
use Rattle.ir_tree.specs.declared.tree.Tree.{Tree}
use Rattle.ir_types.specs.declared.fault.Fault.TheVariants as faults
use Rattle.ir_types.specs.declared.table.Types.{Types}
use Rattle.ir_types.specs.Names.{Symbols}
use Rattle.ir_resolve.specs.Named.{name_step}
use Rattle.ir_resolve.specs.Globals.{global_name}
use Rattle.ir_instructions.specs.Causes.{Among}
use Rattle.ir_instructions.proofs.Shown.{reached_among}
use Rattle.ir_functions.specs.Functions.{symbol_step, symbols_of}
use Rattle.ir_functions.specs.Causes.{FitsFunction}
use Rattle.ir_functions.specs.TreeCauses.{no_type_names, TypesFault, GlobalNameFault, SymbolFault, GlobalFault, PartsFault, KnownFault, TreeFault, FitsTypes, FitsGlobal, FitsTree}
use Rattle.ir_functions.proofs.Forms.{function-fits}

types-fit : (given : List NamedType) (left : ℕ) → TypesFault given (faults.Syntax left) → FitsTypes given → ⊥
types-fit given left (inl (before, one, r, inl bad)) fits = fits.0 one (reached_among name_step no_type_names given before one r) bad
types-fit given left (inl (before, one, r, inr bad)) fits = bad
types-fit given left (inr (inl (names, are, one, stands, node, has, bad))) fits = fits.1 names are one stands node has left bad
types-fit given left (inr (inr (names, are, bodies, made, bad))) fits = bad

abbrev FitGlobals : Types → Tree → Type 0
FitGlobals types tree = (given : Global) → Among tree.globals given → FitsGlobal types tree given

abbrev FitFunctions : Types → Tree → Type 0
FitFunctions types tree = (given : Function) → Among tree.functions given → FitsFunction types given

global-fits : (types : Types) (tree : Tree) (symbols : Symbols) (given : Global) (left : ℕ) → symbols_of tree.globals tree.functions ≡ Ok symbols → GlobalFault types symbols given (faults.Syntax left) → FitsGlobal types tree given → ⊥
global-fits types tree symbols given left are (inl bad) fits = fits.name bad
global-fits types tree symbols given left are (inr (inl bad)) fits = fits.ty left bad
global-fits types tree symbols given left are (inr (inr (inl (ty, is, bad)))) fits = fits.init symbols are ty is left bad
global-fits types tree symbols given left are (inr (inr (inr (one, stands, bad)))) fits = fits.aligns one stands left bad

parts-fit : (types : Types) (tree : Tree) (left : ℕ) → PartsFault types tree (faults.Syntax left) → FitGlobals types tree → FitFunctions types tree → ⊥
parts-fit types tree left (symbols, are, inl many) globals functions = let apart = many.1 in absurd cc
parts-fit types tree left (symbols, are, inr (inl (given, stands, bad))) globals functions = global-fits types tree symbols given left are bad (globals given stands)
parts-fit types tree left (symbols, are, inr (inr (given, stands, bad))) globals functions = function-fits types symbols given left bad (functions given stands)

global-name-fits : (types : Types) (tree : Tree) (left : ℕ) → GlobalNameFault tree (faults.Syntax left) → FitGlobals types tree → ⊥
global-name-fits types tree left (before, given, r, inl bad) globals = (globals given (reached_among global_name (record { named = []; count = 0 }) tree.globals before given r)).name bad
global-name-fits types tree left (before, given, r, inr bad) globals = bad

symbol-fits : (types : Types) (tree : Tree) (left : ℕ) → SymbolFault tree (faults.Syntax left) → FitFunctions types tree → ⊥
symbol-fits types tree left (names, are, before, given, r, inl bad) functions = (functions given (reached_among symbol_step (record { named = names; functions = 0 }) tree.functions before given r)).name bad
symbol-fits types tree left (names, are, before, given, r, inr bad) functions = bad

known-fits : (types : Types) (tree : Tree) (left : ℕ) → KnownFault types tree (faults.Syntax left) → FitGlobals types tree → FitFunctions types tree → ⊥
known-fits types tree left (inl many) globals functions = let apart = many.1 in absurd cc
known-fits types tree left (inr (inl bad)) globals functions = global-name-fits types tree left bad globals
known-fits types tree left (inr (inr (inl bad))) globals functions = symbol-fits types tree left bad functions
known-fits types tree left (inr (inr (inr bad))) globals functions = parts-fit types tree left bad globals functions

-- where a tree's fault is one of syntax, some part doesn't fit
pub syntax_misfits : (tree : Tree) (left : ℕ) → TreeFault tree (faults.Syntax left) → FitsTree tree → ⊥
syntax_misfits tree left (inl bad) fits = types-fit tree.types left bad fits.0
syntax_misfits tree left (inr (types, are, bad)) fits = let known = fits.1 types are in known-fits types tree left bad known.0 known.1
