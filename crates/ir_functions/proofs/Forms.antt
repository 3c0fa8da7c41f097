-- A fault of syntax is no fault of a function of which each part fits.
use Rattle.ir_types.specs.declared.table.Types.{Types}
use Rattle.std.proofs.Common.{◌≡◌, ℕ, Bool, true, false, nat_eq, length, List, [], Option, Some, None, inl, inr}
use Rattle.ir_text.specs.declared.name.Name.{Name}
use Rattle.ir_grammar.specs.declared.type_tree.TypeNode.{TypeNode}
use Rattle.ir_instruction_trees.specs.declared.tree.Instruction.{Instruction}
use Rattle.ir_tree.specs.declared.tree.Block.{Block}
use Rattle.ir_tree.specs.declared.tree.Parameter.{Parameter}
use Rattle.ir_tree.specs.declared.tree.Function.{Function}
use Rattle.ir_types.specs.declared.fault.Fault.TheVariants as faults
use Rattle.ir_types.specs.declared.names.Table.{Table}
use Rattle.ir_types.specs.Names.{Symbols}
use Rattle.ir_resolve.specs.Operands.{is_ty}
use Rattle.ir_instructions.specs.Causes.{Ask, some_type, some_value, this_type, same_type, some_number, some_block, some_callee, some_quiet, some_width, returned, some_memory, some_count, some_aligns, some_entry, asks, Among, AskFault, Fits}
use Rattle.ir_instructions.proofs.Shown.{reached_among}
use Rattle.ir_functions.specs.Functions.{label_step, result_step, block_step}
use Rattle.ir_functions.specs.declared.locals.Numbering.{Numbering}
use Rattle.ir_functions.specs.declared.locals.ParamList.{ParamList}
use Rattle.ir_functions.specs.declared.locals.BodyNames.{BodyNames}
use Rattle.ir_functions.specs.Causes.{LocalFault, ParameterFault, NamesNothing, ResultNameFault, BlockNamesFault, body_start, FunctionFault, FitsLocal, FitsParameter, FitsBlockNames, FitsBody, FitsFunction}

different : (b : Bool) → b ≡ true → b ≡ false → ⊥
different true yes_ no_ = absurd cc
different false yes_ no_ = absurd cc

ask-fits : (types : Types) (symbols : Symbols) (table : Table) (left : ℕ) (ask : Ask) → AskFault types symbols table ask (faults.Syntax left) → Fits types ask → ⊥
ask-fits types symbols table left (some_type given) bad fits = fits bad
ask-fits types symbols table left (some_value given value) bad fits = fits bad.0 bad.1 bad.2
ask-fits types symbols table left (this_type ty given) bad fits = different (is_ty bad.0 ty) (fits bad.0 bad.1) bad.2
ask-fits types symbols table left (same_type given other) bad fits = fits bad
ask-fits types symbols table left (some_number value) bad fits = fits bad
ask-fits types symbols table left (some_block name) bad fits = fits bad
ask-fits types symbols table left (some_callee is_local name) bad fits = fits bad
ask-fits types symbols table left (some_quiet name arguments) bad fits = fits bad.0 bad.1
ask-fits types symbols table left (some_width name arguments) bad fits = bad
ask-fits types symbols table left (returned ret given) bad fits = fits bad
ask-fits types symbols table left (some_memory given) bad fits = fits left bad
ask-fits types symbols table left (some_count place count) bad fits = fits left bad
ask-fits types symbols table left (some_aligns aligns) bad fits = fits bad.0 left bad.1 bad.2
ask-fits types symbols table left (some_entry place) bad fits = absurd cc

local-fits : (before : Numbering) (name : Option Name) (left : ℕ) → LocalFault before name (faults.Syntax left) → FitsLocal before name → ⊥
local-fits before None left bad fits = bad
local-fits before (Some name) left (inl (inl spelt)) fits = fits.0 spelt
local-fits before (Some name) left (inl (inr falls)) fits = fits.1 falls
local-fits before (Some name) left (inr bad) fits = bad

parameter-fits : (types : Types) (before : ParamList) (given : Parameter) (left : ℕ) → ParameterFault types before given (faults.Syntax left) → FitsParameter types before given → ⊥
parameter-fits types before given left (inl bad) fits = fits.0 bad
parameter-fits types before given left (inr (inl void)) fits = fits.1 void
parameter-fits types before given left (inr (inr bad)) fits = local-fits before.names given.name left bad fits.2

-- the instruction is one of a block whose asks all fit
result-name-fits : (types : Types) (ret : List TypeNode) (before : BodyNames) (given : Instruction) (left : ℕ) → ResultNameFault types ret before given (faults.Syntax left) → ((ask : Ask) → Among (asks ret true given.aligns given.operation) ask → Fits types ask) → (NamesNothing types given → ⊥) × FitsLocal before.names given.result → ⊥
result-name-fits types ret before given left (inl bad) asked fits = asked (some_type bad.0) bad.1 bad.2
result-name-fits types ret before given left (inr (inl bad)) asked fits = fits.0 bad
result-name-fits types ret before given left (inr (inr bad)) asked fits = local-fits before.names given.result left bad fits.1

block-names-fit : (types : Types) (given : Function) (before : BodyNames) (block : Block) (left : ℕ) → Among given.blocks block → FitsBody types given → FitsBlockNames types before block → BlockNamesFault types given.ret before block (faults.Syntax left) → ⊥
block-names-fit types given before block left stands whole fits (inl bad) = local-fits before.names block.label left bad fits.0
block-names-fit types given before block left stands whole fits (inr (after, is, at, one, r, bad)) =
    result-name-fits types given.ret at one left bad (λ ask asked. whole block stands one (reached_among (result_step types) after block.instructions at one r) true ask asked) (fits.1 after is at one r)

pub function-fits : (types : Types) (symbols : Symbols) (given : Function) (left : ℕ) → FunctionFault types symbols given (faults.Syntax left) → FitsFunction types given → ⊥
function-fits types symbols given left (inl bad) fits = fits.name bad
function-fits types symbols given left (inr (inl bad)) fits = fits.ret bad
function-fits types symbols given left (inr (inr (inl many))) fits = let apart = many.1 in absurd cc
function-fits types symbols given left (inr (inr (inr (inl (before, one, r, bad))))) fits = parameter-fits types before one left bad (fits.params before one r)
function-fits types symbols given left (inr (inr (inr (inr (inl (count, counted, (passes, apart))))))) fits = absurd cc
function-fits types symbols given left (inr (inr (inr (inr (inr (inl (params, are, before, block, r, bad))))))) fits =
    block-names-fit types given before block left (reached_among (label_step types) (body_start params) given.blocks before block r) fits.body (fits.names params are before block r) bad
function-fits types symbols given left (inr (inr (inr (inr (inr (inr (table, has, ty, is, before, block, r, one, there, (ask, asked, bad)))))))) fits = ask-fits types symbols table left ask bad (fits.body block (reached_among (block_step types symbols table ty) (record { all = [] }) given.blocks before block r) one there (nat_eq (length before.all) 0) ask asked)
