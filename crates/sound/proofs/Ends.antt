-- Tests in a row, each asked only where those before it pass.
use mathlib.Core.Path.{◌≡◌, sym, ap, ◌∙◌}
use mathlib.Core.Bool.{Bool, true, false, ◌&&◌}

-- `asked` is a, the test so far, and where that is true `next` is b
module _ {asked a : Bool} (is : asked ≡ a) where
  pub goes-on : {next b : Bool} → asked ≡ true → next ≡ b → next ≡ (a && b)
  goes-on {b = b} e so = so ∙ ap (λ (x : Bool). x && b) (sym e ∙ is)

  pub ends : (b : Bool) → asked ≡ false → asked ≡ (a && b)
  ends b e = e ∙ ap (λ (x : Bool). x && b) (sym e ∙ is)
