-- Which states belong to a description.
use Rattle.std.specs.Prelude.{◌≡◌, ℕ, length, map}
use Rattle.tie_desc.specs.Description.{Description}
use Rattle.xt_state.specs.State.{State}

-- a value for each state, and a register for each one of each file
pub record HasShape (d : Description) (s : State) : Type 0 where
  pub states : map (λ x. x.width) s.states ≡ map (λ x. x.width) d.states
  pub files : map {B = ℕ × ℕ} (λ f. (f.width, length f.values)) s.files ≡ map {B = ℕ × ℕ} (λ f. (f.width, f.depth)) d.files
