-- Which states are made for a kit.
use Rattle.std.specs.Prelude.{◌≡◌, ℕ, List, length, map, take}
use Rattle.tie_expr.specs.Word.{Word}
use Rattle.tie_desc.specs.Description.{Description}
use Rattle.tie_desc.specs.Fetching.{IsImage}
use Rattle.tie_desc.specs.declared.bundle.Kit.{Kit}
use Rattle.xt_state.specs.State.{File, State}
use Rattle.xt_exec.specs.First.{file_shape}

abbrev pub bank_shape : File → ℕ × ℕ
bank_shape f = (f.width, length f.values)

-- the states have the description's widths, the files its widths and depths
pub record HasShape (d : Description) (s : State) : Type 0 where
  pub states : map (λ x. x.width) s.states ≡ map (λ x. x.width) d.states
  pub files : map bank_shape s.files ≡ map file_shape d.files

-- the bytes of the text
abbrev pub text_of : State → List ℕ
text_of s = take s.text_end s.memory

-- the shape is the description's, and the image is that of the text
pub record IsFor (kit : Kit) (s : State) : Type 0 where
  pub shape : HasShape kit.desc s
  pub image : IsImage kit.desc (text_of s) kit.image.at
