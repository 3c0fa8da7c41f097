-- What is written when blocks have ended, whose own code is handed on.
use Rattle.std.specs.Prelude.{◌+◌, List, [], ◌∷◌, ◌++◌, length, map}
use Rattle.gmir.specs.declared.code.GInst.{GInst}
use Rattle.generic_code.specs.Literals.{empty_pool}
use Rattle.generic_code.specs.Edges.{Ending}
use Rattle.generic_code.specs.Whole.{Body}
use Rattle.ir_translator_emit.specs.Written.{Written}

-- a block has ended like this: the blocks that it takes are finished, and the next begins
abbrev pub laid : Written → Ending → Written
laid w ending = record w {
  done = w.done ++ ending.later;
  code = [];
  types = w.types ++ ending.types;
  pool = empty_pool (length (w.types ++ ending.types));
  own = w.own + length ending.later;
  edges = w.edges ++ ending.edges;
}

-- blocks have ended one after another
abbrev pub all_laid : Written → List Body → Written
all_laid w [] = w
all_laid w (body ∷ more) = all_laid (laid w body.ending) more

-- the code of each block behind its phis
abbrev pub codes_of : List Body → List (List GInst)
codes_of bodies = map (λ (body : Body). body.ending.code) bodies
