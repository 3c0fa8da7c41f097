-- A play calls only what an instruction of its function calls.
use Rattle.std.specs.Prelude.{◌≡◌, ℕ, zero, suc, ◌+◌, ◌-◌, ◌*◌, Bool, true, false, nat_lt, nat_le, List, [], ◌∷◌, ◌++◌, length, replicate, slice_get, Option, Some, None, if◌then◌else◌, refl}
use Rattle.std.proofs.Common.{sym, ap, subst, ◌∙◌}
use Rattle.ir_core.specs.declared.types.Ty.{Ty}
use Rattle.ir_core.specs.declared.code.Operand.{Operand}
use Rattle.ir_core.specs.declared.code.BuiltIn.{BuiltIn}
use Rattle.ir_core.specs.declared.code.Op.{Op}
use Rattle.ir_core.specs.declared.code.Op.TheVariants.{Binary, Icmp, Cast, Select, Freeze, Phi, Alloca, Load, Store, Gep, Call, BuiltIn as CallBuiltIn, Ret, Br, CondBr, Switch, Unreachable}
use Rattle.ir_core.specs.declared.code.Inst.{Inst}
use Rattle.ir_core.specs.declared.program.Function.{Function}
use Rattle.ir_core.specs.Layout.{size, aligned}
use Rattle.ir_core.specs.Units.{frame}
use Rattle.ir_meaning.specs.declared.calls.Reply.{Reply}
use Rattle.ir_meaning.specs.Value.{Value, Computed, Gives, NoMeaning}
use Rattle.ir_meaning.specs.Operators.{width, binary, freeze}
use Rattle.ir_meaning.specs.Memory.{Memory, top, is_inside, byte_count}
use Rattle.ir_core.specs.Program.{Program}
use Rattle.ir_meaning.specs.declared.activation.Activation.{Activation}
use Rattle.ir_meaning.specs.Walk.{Goes, Calls, Returns, Overflows, Breaks, Opens, TooDeep, NoFunction}
use Rattle.ir_meaning.specs.Step.{Does, Entry, step, step_in, step_at, answered, act, loaded, stored, plain, built_in, take_edge, run_built_in, after_moving, give, returned, function_at, insts_at, behind, computed, at_address, fresh, operand, arguments_of, moves_bytes, moved, moved_count, branch_target, switch_target, entry, entry_in, entry_units, first_values, stack_start, walker}
use Rattle.ir_meaning.specs.Play.{PlayEnd, NotEnded, play_on, play_after, play_entry}
use Rattle.ir_meaning.specs.Play as ends
use Rattle.ir_meaning.specs.Plays.{Invocation, play_of}
use Rattle.ir_meaning.specs.Meaning.{meaning}
use Rattle.ir_meaning.proofs.Steps.{SameEntry, Stays, step-stays, answered-stays}
use Rattle.ir_meaning.proofs.Plays.{paid, unpaid, play-paid, play-unpaid}

-- ---- one instruction

-- what is called is what this operation calls
abbrev Only : Op → Does → Type 0
Only op (Goes next memory) = Unit {0}
Only op (Calls g given) = (arguments : List (Ty × Operand)) × (op ≡ Call g arguments)
Only op (Returns value memory) = Unit {0}
Only op Overflows = Unit {0}
Only op Breaks = Unit {0}

module _ (op : Op) where
  computed-only : (go : Value → Does) (value : Computed) → ((v : Value) → Only op (go v)) → Only op (computed go value)
  computed-only go (Gives value) h = h value
  computed-only go NoMeaning h = tt

  address-only : (memory : Memory) (value : Value) (count : ℕ) (go : ℕ → Does) → ((a : ℕ) → Only op (go a)) → Only op (at_address memory value count go)
  address-only memory None count go h = tt
  address-only memory (Some address) count go h = by_test (is_inside memory address count)
    where
      by_test : (inside : Bool) → Only op (if inside then go address else Breaks)
      by_test true = h address
      by_test false = tt

  fresh-only : (room : ℕ) (memory : Memory) (count : ℕ) (go : Memory → Does) → ((m : Memory) → Only op (go m)) → Only op (fresh room memory count go)
  fresh-only room memory count go h =
      elim (nat_le (length memory + count) room) as (λ b. Only op (elim b [ true ↦ go (memory ++ replicate count None) | false ↦ Overflows ])) [
        | true ↦ h (memory ++ replicate count None)
        | false ↦ tt
      ]

  module _ (program : Program) (function : Function) (now : Activation) (memory : Memory) (inst : Inst) where
    edge-only : (to : Option ℕ) → Only op (take_edge program function now memory inst to).does
    edge-only None = tt
    edge-only (Some to) = tt

    moving-only : (count : ℕ) (after : Option Memory) → Only op (after_moving program function now memory inst count after).does
    moving-only count None = tt
    moving-only count (Some after) = tt

    built_in-only : (which : BuiltIn) (arguments : List Value) → Only op (run_built_in program function now memory inst which arguments).does
    built_in-only which arguments = by_kind (moves_bytes which)
      where
        by_kind : (moves : Bool) → Only op (if moves then after_moving program function now memory inst (moved_count arguments) (moved which memory arguments) else plain program function now memory inst (give program function now memory inst (built_in which (width inst.gives) arguments))).does
        by_kind true = moving-only (moved_count arguments) (moved which memory arguments)
        by_kind false = tt

    returned-only : (a : Option Operand) → Only op (returned program function now memory inst a)
    returned-only None = tt
    returned-only (Some a) = tt

act-only : (program : Program) (function : Function) (now : Activation) (memory : Memory) (inst : Inst) (op : Op) → Only op (act program function now memory inst op).does
act-only program function now memory inst (Binary op flags a b) =
    computed-only (Binary op flags a b) (give program function now memory inst) (binary op flags (width inst.gives) (operand program now.values a) (operand program now.values b)) (λ v. tt)
act-only program function now memory inst (Icmp pred flags ty a b) = tt
act-only program function now memory inst (Cast op flags from a) = tt
act-only program function now memory inst (Select c a b) = tt
act-only program function now memory inst (Freeze a) = computed-only (Freeze a) (give program function now memory inst) (freeze (operand program now.values a)) (λ v. tt)
act-only program function now memory inst (Phi pairs) = tt
act-only program function now memory inst (Alloca ty count) =
    fresh-only (Alloca ty count) program.room memory (aligned (size ty * count) 16) (λ after. Goes (behind function now inst (Some (top memory))) after) (λ m. tt)
act-only program function now memory inst (Load address) =
    address-only (Load address) memory (operand program now.values address) (byte_count inst.gives) (loaded program function now memory inst inst.gives) (λ a. tt)
act-only program function now memory inst (Store ty a address) =
    address-only (Store ty a address) memory (operand program now.values address) (byte_count ty) (stored program function now memory inst ty (operand program now.values a)) (λ n. tt)
act-only program function now memory inst (Gep ty base indices) = tt
act-only program function now memory inst (Call callee arguments) = (arguments, refl)
act-only program function now memory inst (CallBuiltIn which arguments) = built_in-only (CallBuiltIn which arguments) program function now memory inst which (arguments_of program now.values arguments)
act-only program function now memory inst (Ret a) = returned-only (Ret a) program function now memory inst a
act-only program function now memory inst (Br to) = edge-only (Br to) program function now memory inst (Some to)
act-only program function now memory inst (CondBr condition if_true if_false) =
    edge-only (CondBr condition if_true if_false) program function now memory inst (branch_target (operand program now.values condition) if_true if_false)
act-only program function now memory inst (Switch ty a otherwise cases) =
    edge-only (Switch ty a otherwise cases) program function now memory inst (switch_target (operand program now.values a) cases otherwise)
act-only program function now memory inst Unreachable = tt

-- ---- one step

-- an instruction of the function calls that symbol
pub record CallStands (function : Function) (g : ℕ) : Type 0 where
  pub block : ℕ
  pub place : ℕ
  pub inst : Inst
  pub at : slice_get (insts_at function block) place ≡ Some inst
  pub arguments : List (Ty × Operand)
  pub calls : inst.op ≡ Call g arguments

module _ (program : Program) (function : Function) where
  inst-calls : (now : Activation) (memory : Memory) (g : ℕ) (given : List Value) (o : Option Inst) → slice_get (insts_at function now.block) now.place ≡ o
      → (step_at program now memory function o).does ≡ Calls g given → CallStands function g
  inst-calls now memory g given None e h = absurd (let bad : ⊥ = cc in bad)
  inst-calls now memory g given (Some inst) e h =
      let only : Only inst.op (Calls g given) = subst (Only inst.op) h (act-only program function now memory inst inst.op) in
      record { block = now.block; place = now.place; inst = inst; at = e; arguments = only.0; calls = only.1 }

  step-calls : (now : Activation) (memory : Memory) (g : ℕ) (given : List Value) → function_at program now.symbol ≡ Some function → (step program now memory).does ≡ Calls g given → CallStands function g
  step-calls now memory g given there h =
      inst-calls now memory g given (slice_get (insts_at function now.block) now.place) refl (subst (λ (f : Option Function). (step_in program now memory f).does ≡ Calls g given) there h)

  -- ---- a play

  abbrev CallsOn : ℕ → Type 0
  CallsOn n = (left : ℕ) (rs : List Reply) (now : Activation) (memory : Memory) (g : ℕ) (args : List Value) (here : Memory) → function_at program now.symbol ≡ Some function
      → play_on (walker program) n left rs now memory ≡ ends.Calls g args here → CallStands function g

  after-calls : (n left : ℕ) (rs : List Reply) (now : Activation) (memory : Memory) (g : ℕ) (args : List Value) (here : Memory) → CallsOn n → function_at program now.symbol ≡ Some function
      → (does : Does) → (step program now memory).does ≡ does → play_after (walker program) (play_on (walker program) n) left rs now memory does ≡ ends.Calls g args here → CallStands function g
  after-calls n left rs now memory g args here ih there (Goes next after) d h =
      let stays : SameEntry now next = subst (Stays now) d (step-stays program now memory) in
      ih left rs next after g args here (ap (function_at program) stays.symbol ∙ there) h
  after-calls n left [] now memory g args here ih there (Calls callee given) d h =
      let same : callee ≡ g = cc in subst (CallStands function) same (step-calls now memory callee given there d)
  after-calls n left (r ∷ rs) now memory g args here ih there (Calls callee given) d h =
      let stays = answered-stays program now r.value in
      ih left rs (answered program now r.value) r.memory g args here (ap (function_at program) stays.symbol ∙ there) h
  after-calls n left rs now memory g args here ih there (Returns value after) d h = absurd (let bad : ⊥ = cc in bad)
  after-calls n left rs now memory g args here ih there Overflows d h = absurd (let bad : ⊥ = cc in bad)
  after-calls n left rs now memory g args here ih there Breaks d h = absurd (let bad : ⊥ = cc in bad)

  on-calls : (n : ℕ) → CallsOn n
  on-calls zero left rs now memory g args here there h = absurd (let bad : ⊥ = cc in bad)
  on-calls (suc n) left rs now memory g args here there h = by_test (on-calls n) (nat_lt left (step program now memory).units) refl
    where
      by_test : CallsOn n → (short : Bool) → nat_lt left (step program now memory).units ≡ short → CallStands function g
      by_test ih true e =
          let none : NotEnded ≡ ends.Calls g args here = sym (unpaid (walker program) (play_on (walker program) n) left rs now memory (step program now memory) e) ∙ h in
          absurd (let bad : ⊥ = cc in bad)
      by_test ih false e =
          after-calls n (left - (step program now memory).units) rs now memory g args here ih there (step program now memory).does refl
          (sym (paid (walker program) (play_on (walker program) n) left rs now memory (step program now memory) e) ∙ h)

  -- ---- from the entry

  first-symbol : (symbol : ℕ) (args : List Value) (memory : Memory) (sp : ℕ) (o : Option Function) (first : Activation) → entry_in symbol args memory sp o ≡ Opens first → first.symbol ≡ symbol
  first-symbol symbol args memory sp None first h = absurd (let bad : ⊥ = cc in bad)
  first-symbol symbol args memory sp (Some f) first h = by_room (nat_lt sp (stack_start + frame f)) h
    where
      by_room : (deep : Bool) → (if deep then TooDeep else Opens (record { symbol = symbol; block = 0; place = 0; values = first_values f args; entry_length = length memory; sp = sp - frame f })) ≡ Opens first
          → first.symbol ≡ symbol
      by_room true h = absurd (let bad : ⊥ = cc in bad)
      by_room false h = let same : record { symbol = symbol; block = 0; place = 0; values = first_values f args; entry_length = length memory; sp = sp - frame f } ≡ first = cc in sym (ap (λ (z : Activation). z.symbol) same)

  entry-calls : (a : Invocation) (rs : List Reply) (t g : ℕ) (args : List Value) (here : Memory) → function_at program a.symbol ≡ Some function → (x : Entry)
      → entry program a.symbol a.args a.memory a.sp ≡ x → play_entry (walker program) (play_on (walker program) t) (t - entry_units) rs a.memory x ≡ ends.Calls g args here → CallStands function g
  entry-calls a rs t g args here there (Opens first) e h =
      let symbol = first-symbol a.symbol a.args a.memory a.sp (function_at program a.symbol) first e in
      on-calls t (t - entry_units) rs first a.memory g args here (ap (function_at program) symbol ∙ there) h
  entry-calls a rs t g args here there TooDeep e h = absurd (let bad : ⊥ = cc in bad)
  entry-calls a rs t g args here there NoFunction e h = absurd (let bad : ⊥ = cc in bad)

  pub play-calls : (a : Invocation) (rs : List Reply) (t g : ℕ) (args : List Value) (here : Memory) → function_at program a.symbol ≡ Some function
      → play_of (meaning program) a rs t ≡ ends.Calls g args here → CallStands function g
  play-calls a rs t g args here there h = by_test (nat_lt t entry_units) refl
    where
      by_test : (short : Bool) → nat_lt t entry_units ≡ short → CallStands function g
      by_test true e =
          let none : NotEnded ≡ ends.Calls g args here = sym (play-unpaid (walker program) a.symbol a.args a.memory a.sp rs t e) ∙ h in
          absurd (let bad : ⊥ = cc in bad)
      by_test false e = entry-calls a rs t g args here there (entry program a.symbol a.args a.memory a.sp) refl (sym (play-paid (walker program) a.symbol a.args a.memory a.sp rs t e) ∙ h)
