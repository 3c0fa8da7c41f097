-- What a module's text and the text of its calls say.
use Rattle.std.specs.Prelude.{◌≡◌, ℕ, List, Ok}
use Rattle.jit_calls.specs.Lists.{calls_of}
use Rattle.jit_main.specs.declared.front.Front.{Front}
use Rattle.jit_main.specs.Run.{IsCheckedText, IsImageFor}

-- the module passes the verifier, this is its image, and these are its calls
pub record IsFrontOf (module_text calls_text : List ℕ) (room : ℕ) (front : Front) : Type 0 where
  pub is_module : IsCheckedText module_text room front.checked
  pub image : IsImageFor front.checked front.image
  pub is_calls : calls_of front.checked.module_ calls_text ≡ Ok front.calls
