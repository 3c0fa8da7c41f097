-- What quoted text of bytes says is bytes.
use Rattle.std.proofs.Common.{◌≡◌, ℕ, ◌+◌, ◌*◌, ◌-◌, ◌<◌, Bool, true, false, List, [], ◌∷◌, Option, Some, None, Result, Ok, Err, refl, sym, ◌∙◌, ap, subst, arith, if◌then◌else◌}
use Rattle.std.specs.Prelude.{◌&&◌, nat_eq, nat_le, nat_lt}
use Rattle.std.proofs.lemmas.Option.{none-some}
use Rattle.ir_text.specs.declared.token.Spelling.{Spelling}
use Rattle.ir_text.specs.declared.token.Spelling.TheVariants.{Bare, Numbered, Quoted}
use Rattle.ir_text.specs.declared.name.Name.{Name}
use Rattle.ir_text.specs.declared.quoted.Escape.{Escape}
use Rattle.ir_text.specs.declared.quoted.Escape.TheVariants.{Closed, Opened, Half}
use Rattle.ir_text.specs.Quoted.{hexadecimal, pair_of, escaped, before, unquoted_behind, unquoted, said}
use Rattle.ir_types.specs.declared.fault.Fault.TheVariants as faults
use Rattle.ir_types.specs.Names.{bytes_of}
use Rattle.ir_print_laws.proofs.ReadTokens.{Bytes}
use Rattle.ir_print_laws.proofs.TreeWords.{one_flag}
use Rattle.ir_print_laws.proofs.Inverting.{same_some, or_ok}

abbrev IsDigit : ℕ → Type 0
IsDigit value = value < 16

digit_below : (digit v : ℕ) → hexadecimal digit ≡ Some v → v < 16
digit_below digit v e =
    one_flag IsDigit (nat_le 48 digit && nat_le digit 57) (digit - 48) _ v (λ b. grind (arith, b)) (λ e.
    one_flag IsDigit (nat_le 65 digit && nat_le digit 70) (digit - 55) _ v (λ b. grind (arith, b)) (λ e.
    one_flag IsDigit (nat_le 97 digit && nat_le digit 102) (digit - 87) _ v (λ b. grind (arith, b)) (λ e. absurd (none-some v e)) e) e) e

pair_below : (high low : Option ℕ) (v : ℕ) → ((h : ℕ) → high ≡ Some h → h < 16) → ((l : ℕ) → low ≡ Some l → l < 16) → pair_of high low ≡ Some v → nat_lt v 256 ≡ true
pair_below None low v p q e = absurd cc
pair_below (Some h) None v p q e = absurd cc
pair_below (Some h) (Some l) v p q e =
    let a = p h refl in
    let b = q l refl in
    let same = same_some (16 * h + l) v e in
    let lt : v < 256 = omega (arith, a, b, same) in
    grind (arith, lt)

escaped_below : (high low v : ℕ) → escaped high low ≡ Some v → nat_lt v 256 ≡ true
escaped_below high low v e = pair_below (hexadecimal high) (hexadecimal low) v (digit_below high) (digit_below low) e

before_bytes : (one : Option ℕ) (more : Option (List ℕ)) (out : List ℕ) → ((b : ℕ) → one ≡ Some b → nat_lt b 256 ≡ true) → ((bs : List ℕ) → more ≡ Some bs → Bytes bs) → before one more ≡ Some out → Bytes out
before_bytes None more out p q e = absurd cc
before_bytes (Some b) None out p q e = absurd cc
before_bytes (Some b) (Some bs) out p q e = subst Bytes (same_some (b ∷ bs) out e) (p b refl, q bs refl)

chosen : {A : Type 0} (b : Bool) (x y z : A) (P : Type 0) → (x ≡ z → P) → (y ≡ z → P) → (if b then x else y) ≡ z → P
chosen true x y z P p q e = p e
chosen false x y z P p q e = q e

behind_bytes : (state : Escape) (text out : List ℕ) → Bytes text → unquoted_behind state text ≡ Some out → Bytes out
unfolding unquoted_behind
behind_bytes Closed [] out all e = subst Bytes (same_some [] out e) tt
behind_bytes Opened [] out all e = absurd cc
behind_bytes (Half high) [] out all e = absurd cc
behind_bytes Closed (byte ∷ text) out all e =
    chosen (nat_eq byte 92) (unquoted_behind Opened text) (before (Some byte) (unquoted_behind Closed text)) (Some out) (Bytes out)
    (λ h. behind_bytes Opened text out all.1 h)
    (λ h. before_bytes (Some byte) (unquoted_behind Closed text) out (λ b same. subst (λ (x : ℕ). nat_lt x 256 ≡ true) (same_some byte b same) all.0) (λ bs is. behind_bytes Closed text bs all.1 is) h) e
behind_bytes Opened (byte ∷ text) out all e =
    chosen (nat_eq byte 92) (before (Some 92) (unquoted_behind Closed text)) (unquoted_behind (Half byte) text) (Some out) (Bytes out)
    (λ h. before_bytes (Some 92) (unquoted_behind Closed text) out (λ b same. subst (λ (x : ℕ). nat_lt x 256 ≡ true) (same_some 92 b same) refl) (λ bs is. behind_bytes Closed text bs all.1 is) h)
    (λ h. behind_bytes (Half byte) text out all.1 h) e
behind_bytes (Half high) (byte ∷ text) out all e = before_bytes (escaped high byte) (unquoted_behind Closed text) out (λ b is. escaped_below high byte b is) (λ bs is. behind_bytes Closed text bs all.1 is) e

pub unquoted_bytes : (text out : List ℕ) → Bytes text → unquoted text ≡ Some out → Bytes out
unquoted_bytes text out all e = behind_bytes Closed text out all e

said_bytes : (spelling : Spelling) (written out : List ℕ) → Bytes written → said spelling written ≡ Some out → Bytes out
said_bytes Bare written out all e = subst Bytes (same_some written out e) all
said_bytes Numbered written out all e = subst Bytes (same_some written out e) all
said_bytes Quoted written out all e = unquoted_bytes written out all e

-- the bytes of a name
pub name_bytes : (name : Name) (out : List ℕ) → Bytes name.bytes → bytes_of name ≡ Ok out → Bytes out
unfolding bytes_of
name_bytes name out all e = said_bytes name.spelling name.bytes out all (or_ok (faults.Syntax name.left) (said name.spelling name.bytes) out e)
