-- A call leads to its symbol's stub, and what its answer leaves is stored.
use Rattle.std.proofs.Common.{◌≡◌, refl, sym, ap, ◌∙◌, ℕ, suc, ◌+◌, ◌-◌, ◌*◌, ◌/◌, ◌%◌, ◌^◌, ◌<◌, ◌≤◌, List, length, Option, Some, None, Bool, true, false, cond, arith}
use Rattle.std.specs.Prelude.{◌==◌, ◌&&◌, nat_le, nat_lt, pos}
use Rattle.std.proofs.lemmas.Bool.{le-leb}
use Rattle.rv_core.specs.declared.reg.Reg.TheVariants.{Ra, T1}
use Rattle.rv_core.specs.declared.instr.Instr.TheVariants.{Lui, Jalr}
use Rattle.rv_core.proofs.Bytes.{load_alike}
use Rattle.rv_core.specs.Step.{written, plus, sign_extend_word}
use Rattle.ir_meaning.specs.Value.{Value}
use Rattle.ir_meaning.specs.Memory.{Memory}
use Rattle.ir_meaning.specs.Plays.{Meaning, Invocation}
use Rattle.rv_play.specs.Machine.{Machine, Act, On, act, code_base, code_limit, data_base, stub_base, stub_of}
use Rattle.rv_play.specs.CodePlay.{Place, Point, CodeEnd, Calls, CodeReply, code_run, go_on, after_act, called, stub_at, resume}
use Rattle.rv_play.specs.Ending.{upper, lower}
use Rattle.rv_play.specs.Good.{RefinesMemory}
use Rattle.rv_play.proofs.Lines.{Stands, one-step, moved}
use Rattle.rv_play.proofs.Stub.{cell_address}
use Rattle.code_pieces.specs.Code.{call_code}
use Rattle.code_pieces.proofs.Const.{put, puts-one, eq-true}
use Rattle.code_pieces.proofs.Frame.{Holds, scratch-t1}

-- the point at the entry of a stub, and the place to which its callee returns
abbrev pub call_point : ℕ → Point → Point
call_point g q =
    let q1 = put q T1 (sign_extend_word (upper (stub_of g) * 2 ^ 12)) 1 in
    moved q1 (record q1.machine { regs = record { x = written q1.machine.regs.x 1 (q.machine.regs.pc + 8); pc = stub_of g } }) q.counted

stub-here : (m : Meaning) (g : ℕ) → g < m.functions → stub_at m (stub_of g) ≡ Some g
stub-here m g h =
    let inside : ((nat_le stub_base (stub_of g)) && ((nat_lt (stub_of g) (stub_of m.functions)) && ((stub_of g - stub_base) % 16 == 0))) ≡ true = grind arith in
    let which : (stub_of g - stub_base) / 16 ≡ g = omega arith in
    ap (λ (b : Bool). cond b (Some ((stub_of g - stub_base) / 16)) None) inside ∙ ap (λ (k : ℕ). Some k) which

unlike : (x sp low frame : ℕ) → x ≡ low → sp ≡ low + frame → 128 ≤ frame → (b : Bool) → (x == sp) ≡ b → b ≡ false
unlike x sp low frame e f large true h = let same = eq-true x sp h in absurd (omega (arith, e, f, large, same))
unlike x sp low frame e f large false h = refl

inside-from : (x low sp : ℕ) → sp ≡ low → low ≤ x → nat_le sp x ≡ true
inside-from x low sp e le = le-leb _ _ (omega (arith, e, le))

module _ (a : Invocation) (s : Machine) (low frame : ℕ) (m : Meaning) (functions : m.functions ≤ 1024) (place : Place) (lowb : code_base + 4 ≤ place.base) (highb : place.base + 4 * length place.words ≤ code_limit)
    (entering : place.sp ≡ low + frame) (large : 128 ≤ frame) where
  not-return : (b : Bool) (q : Point) (e : CodeEnd) → (q.machine.regs.x 2 == place.sp) ≡ false → cond (true && (b && (q.machine.regs.x 2 == place.sp))) e (called (stub_at m q.machine.regs.pc) q) ≡ called (stub_at m q.machine.regs.pc) q
  not-return true q e h = ap (λ (c : Bool). cond c e (called (stub_at m q.machine.regs.pc) q)) h
  not-return false q e h = refl

  pub call-runs : (g : ℕ) (values : List Value) (here : Memory) (q : Point) → g < m.functions → Holds a s low frame values here q → Stands place q.machine.regs.pc (call_code g)
      → (f : ℕ) (replies : List CodeReply) → code_run m place (2 + f) q replies ≡ go_on (code_run m place f) replies (Calls g (call_point g q))
  call-runs g values here q exists h st =
      let q1 : Point = put q T1 (sign_extend_word (upper (stub_of g) * 2 ^ 12)) 1 in
      let first = puts-one m functions place lowb highb q T1 (sign_extend_word (upper (stub_of g) * 2 ^ 12)) (Lui T1 (upper (stub_of g))) scratch-t1.0 refl refl (st.0, st.1, st.2, tt) in
      let bound = st.3.1 in
      let target : plus (sign_extend_word (upper (stub_of g) * 2 ^ 12)) (lower (stub_of g)) ≡ stub_of g = cell_address (stub_of g) (omega arith) in
      let link : plus (q.machine.regs.pc + 4 * 1) (pos 4) ≡ q.machine.regs.pc + 8 = omega (arith, bound) in
      let even : stub_of g - stub_of g % 2 ≡ stub_of g = omega arith in
      let made : ℕ → ℕ → Act = λ to ra. On (record q1.machine { regs = record { x = written q1.machine.regs.x 1 ra; pc = to - to % 2 } }) in
      let acts : act m q1.machine (Jalr Ra T1 (lower (stub_of g))) ≡ On (call_point g q).machine =
      ap (λ (t : ℕ). made t (plus (q.machine.regs.pc + 4 * 1) (pos 4))) target
      ∙ ap (λ (ra : ℕ). made (stub_of g) ra) link
      ∙ ap (λ (pc : ℕ). On (record q1.machine { regs = record { x = written q1.machine.regs.x 1 (q.machine.regs.pc + 8); pc = pc } })) even in
      let differs : (q.machine.regs.x 2 == place.sp) ≡ false = unlike (q.machine.regs.x 2) place.sp low frame h.sp entering large (q.machine.regs.x 2 == place.sp) refl in
      let ends : after_act m place (Jalr Ra T1 (lower (stub_of g))) q1 (act m q1.machine (Jalr Ra T1 (lower (stub_of g)))) ≡ Calls g (call_point g q) =
      ap (after_act m place (Jalr Ra T1 (lower (stub_of g))) q1) acts
      ∙ not-return ((call_point g q).machine.regs.pc == place.ra) (call_point g q) _ differs
      ∙ ap (λ (o : Option ℕ). called o (call_point g q)) (stub-here m g exists) in
      λ f replies.
      ap (λ (k : ℕ). code_run m place k q replies) (let e : 2 + f ≡ 1 + suc f = omega arith in e)
      ∙ first (suc f) replies
      ∙ one-step m functions place lowb highb q1 (Jalr Ra T1 (lower (stub_of g))) (Calls g (call_point g q)) st.3.2 ends f replies

  -- the frame stands at the call
  pub hold-call : (g : ℕ) (values : List Value) (here : Memory) (q : Point) → Holds a s low frame values here q → Holds a s low frame values here (call_point g q)
  hold-call g values here q h = record {
    sp = h.sp;
    slots = h.slots;
    ra = h.ra;
    aside = h.aside;
    saved = h.saved;
    data_top = h.data_top;
    kept = h.kept;
    memory' = h.memory';
    counted = h.counted;
  }

  kept-byte : (b : Bool) (x y : ℕ) → b ≡ true → cond b x y ≡ x
  kept-byte true x y h = refl
  kept-byte false x y h = absurd (let bad : false ≡ true = h in cc)

  -- and behind it, with the answer's memory
  pub hold-resumed : (values : List Value) (here after : Memory) (q : Point) (c : CodeReply) → Holds a s low frame values here q → RefinesMemory after c.bytes → length after ≡ length here → Holds a s low frame values after (resume q c)
  hold-resumed values here after q c h refines long = record {
    sp = h.sp;
    slots = λ i v e. load_alike (resume q c).machine.control q.machine.control (low + 32 * i) 8 (λ x le lt. byte x (omega (arith, le))) ∙ h.slots i v e;
    ra = load_alike (resume q c).machine.control q.machine.control (low + (frame - 8)) 8 (λ x le lt. byte x (omega (arith, le))) ∙ h.ra;
    aside = load_alike (resume q c).machine.control q.machine.control (low + (frame - 104)) 8 (λ x le lt. byte x (omega (arith, le))) ∙ h.aside;
    saved = h.saved;
    data_top = h.data_top ∙ ap (λ (k : ℕ). data_base + k) (sym long);
    kept = λ x le. byte x (omega (arith, le)) ∙ h.kept x le;
    memory' = refines;
    counted = h.counted;
  }
    where
      byte : (x : ℕ) → low ≤ x → (resume q c).machine.control x ≡ q.machine.control x
      byte x le = kept-byte (nat_le (q.machine.regs.x 2) x) (q.machine.control x) (c.control x) (inside-from x low (q.machine.regs.x 2) h.sp le)
