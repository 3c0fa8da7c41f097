-- What an instruction does on a hart: its registers' step, and what it asks.
use Rattle.std.proofs.Common.{◌≡◌, ◌≢◌, refl, sym, ap, subst, ◌∙◌, ℕ, List, [], ◌∷◌, None}
use Rattle.rv_core.specs.declared.reg.Reg.{Reg}
use Rattle.rv_core.specs.declared.instr.Instr.{Instr}
use Rattle.rv_core.specs.declared.instr.Instr.TheVariants.{Lui, Auipc, Jal, Jalr, Branch, Load, Store, Imm, Op, Fence, Ecall, Ebreak}
use Rattle.rv_core.specs.declared.step.Stepped.{Stepped}
use Rattle.rv_core.specs.Step.{Registers, after, asks, at_pc}
use Rattle.ir_meaning.specs.Plays.{Meaning}
use Rattle.ir_meaning.specs.declared.calls.Ended.TheVariants as ended
use Rattle.rv_play.specs.Machine.{Machine, Act, On, Counts, Overflow, Fails, serve}
use Rattle.rv_play.specs.Ending.{Item, Held, Saw, Ends, cell_load, held, after_act, do_instr, do_instr_with}
use Rattle.hart.specs.declared.hart.Hart.{Hart}
use Rattle.hart.specs.declared.hart.Did.{Did}
use Rattle.hart.specs.declared.hart.Did.TheVariants as did
use Rattle.hart.specs.Standing.{Serves, machine_of, next_of, cell_given}

-- a machine after the registers' step of an instruction
abbrev pub stepped_to : Machine → Instr → Machine
stepped_to s i = record s { regs = after s.regs i }

on≢fails : {A : Type 0} (s : Machine) → On s ≡ Fails → A
on≢fails s h = absurd (let bad : On s ≡ Fails = h in cc)

-- an instruction that fails changes no register but the program counter
pub fails_in_place : (m : Meaning) (s : Machine) (i : Instr) → serve m (stepped_to s i) (asks s.regs i) ≡ Fails → at_pc s.regs.pc (after s.regs i) ≡ s.regs
fails_in_place m s (Lui rd n) h = on≢fails _ h
fails_in_place m s (Auipc rd n) h = on≢fails _ h
fails_in_place m s (Jal rd n) h = on≢fails _ h
fails_in_place m s (Jalr rd rs1 n) h = on≢fails _ h
fails_in_place m s (Branch op rs1 rs2 n) h = on≢fails _ h
fails_in_place m s (Load op rd rs1 n) h = refl
fails_in_place m s (Store op rs2 rs1 n) h = refl
fails_in_place m s (Imm op rd rs1 n) h = on≢fails _ h
fails_in_place m s (Op op rd rs1 rs2) h = on≢fails _ h
fails_in_place m s Fence h = on≢fails _ h
fails_in_place m s Ecall h = refl
fails_in_place m s Ebreak h = refl

held-given : (s : Machine) (i : Instr) (counted : List ℕ) (rd : Reg) (symbol : ℕ) (pass : List Item)
    → held (record { machine = s; pass = pass; counted = counted }) i rd symbol pass ≡ cell_given (stepped_to s i) counted rd symbol pass
held-given s i counted rd symbol [] = refl
held-given s i counted rd symbol (Held symbol' base ∷ pass) = refl
held-given s i counted rd symbol (Saw address word ∷ pass) = refl

pub acts : (m : Meaning) (s : Machine) (counted : List ℕ) (pass : List Item) (i : Instr) (a : Act)
    → cell_load m (asks s.regs i) ≡ None → serve m (stepped_to s i) (asks s.regs i) ≡ a
    → do_instr m (record { machine = s; pass = pass; counted = counted }) i ≡ after_act (record { machine = s; pass = pass; counted = counted }) a
acts m s counted pass i a e f =
    ap (do_instr_with m (record { machine = s; pass = pass; counted = counted }) i) e ∙ ap (after_act (record { machine = s; pass = pass; counted = counted })) f

-- what was asked and how it was served is what the instruction does
pub does-as_served : (m : Meaning) (s : Machine) (h : Hart) (counted : List ℕ) (pass : List Item) (i : Instr) (d : Did)
    → Serves m (stepped_to s i) (asks s.regs i) (machine_of h) d → (d ≢ did.Fault)
    → do_instr m (record { machine = s; pass = pass; counted = counted }) i ≡ next_of h counted pass d
does-as_served m s h counted pass i did.On e n = acts m s counted pass i (On (machine_of h)) e.0 e.1
does-as_served m s h counted pass i (did.Cell rd symbol) e n =
    ap (do_instr_with m (record { machine = s; pass = pass; counted = counted }) i) e.0
    ∙ held-given s i counted rd symbol pass ∙ ap (λ (t : Machine). cell_given t counted rd symbol pass) (sym e.1)
does-as_served m s h counted pass i (did.Count symbol) e n = acts m s counted pass i (Counts symbol (machine_of h)) e.0 e.1
does-as_served m s h counted pass i did.Overflow e n = acts m s counted pass i (Overflow (machine_of h)) e.0 e.1
does-as_served m s h counted pass i did.Fault e n = absurd (n refl)

-- a fault, with the program counter put back
pub does-fault : (m : Meaning) (s s' : Machine) (h : Hart) (counted : List ℕ) (pass : List Item) (i : Instr)
    → Serves m (stepped_to s i) (asks s.regs i) s' did.Fault
    → machine_of h ≡ record s' { regs = at_pc s.regs.pc s'.regs }
    → do_instr m (record { machine = s; pass = pass; counted = counted }) i ≡ next_of h counted pass did.Fault
does-fault m s s' h counted pass i e back =
    let same : machine_of h ≡ s =
    back ∙ ap (λ (t : Machine). record t { regs = at_pc s.regs.pc t.regs }) e.2
    ∙ ap (λ (r : Registers). record s { regs = r }) (fails_in_place m s i e.1) in
    acts m s counted pass i Fails e.0 e.1
    ∙ ap (λ (t : Machine). Ends (ended.Fault t.regs.pc) (record { machine = t; pass = pass; counted = counted })) (sym same)

-- what was served after the registers' step
pub served-after : (m : Meaning) (s : Machine) (i : Instr) (regs : Registers) (q : Stepped) (s' : Machine) (d : Did)
    → regs ≡ after s.regs i → q ≡ asks s.regs i → Serves m (record s { regs = regs }) q s' d → Serves m (stepped_to s i) (asks s.regs i) s' d
served-after m s i regs q s' d e f h =
    subst (λ (r : Registers). Serves m (record s { regs = r }) (asks s.regs i) s' d) e (subst (λ (p : Stepped). Serves m (record s { regs = regs }) p s' d) f h)
