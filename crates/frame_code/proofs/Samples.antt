-- The code of a small function, computed.
use Rattle.std.proofs.Common.{◌≡◌, refl, sym, ap, subst, ◌∙◌, ℕ, List, [], ◌∷◌, ◌++◌, map, Some, None, arith}
use Rattle.rv_core.specs.declared.instr.Instr.{Instr}
use Rattle.rv_asm.specs.declared.item.Item.{Item as Assembled}
use Rattle.rv_asm.specs.declared.item.Formed.{Formed}
use Rattle.rv_asm.specs.declared.item.Form.{Form}
use Rattle.rv_asm.specs.declared.item.Form.TheVariants.{Short}
use Rattle.rv_asm.specs.Code.{Code}
use Rattle.rv_asm.specs.Layout.{item_of, in_short, AreNoLonger, AreFirst, way, laid}
use Rattle.code_pieces.specs.Code.{lowered_code, store_at, load_at, raised_code}
use Rattle.code_pieces.specs.Assembly.{put}
use Rattle.frame_code.specs.Code.{give_back}
use Rattle.frame_code.specs.Assembly.{code_of}
use Rattle.frame_code.specs.Samples.{twice, in_s0, words, TwiceIsLaidOut}

-- the first form is the shortest
shortest : (items : List Assembled) (others : List Formed) → map item_of others ≡ items → AreNoLonger (map in_short items) others
shortest [] [] e = tt
shortest [] (y ∷ ys) e = absurd (let bad : ⊥ = cc in bad)
shortest (x ∷ xs) [] e = absurd (let bad : ⊥ = cc in bad)
shortest (x ∷ xs) (y ∷ ys) e = (let same : x ≡ y.item = cc in same, (tt, shortest xs ys (let rest : map item_of ys ≡ xs = cc in rest)))

pub twice_is_laid_out : TwiceIsLaidOut
unfolding put lowered_code store_at load_at raised_code give_back
twice_is_laid_out = record {
  formed = map in_short (code_of twice in_s0).items;
  items = refl;
  first = (refl, (refl, (refl, (refl, (refl, (refl, (refl, (refl, (refl, (refl, (refl, (refl, (refl, (refl, (refl, (refl, (refl, (refl, tt))))))))))))))))));
  least = λ others e first. shortest (code_of twice in_s0).items others e;
  made = refl;
}
