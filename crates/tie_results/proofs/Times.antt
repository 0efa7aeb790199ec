-- An argument counts at least once.
use Rattle.std.proofs.Common.{◌≡◌, ℕ, zero, suc, ◌+◌, ◌<◌, Bool, true, false, if◌then◌else◌, List, Option, Some, None, refl, arith}
use Rattle.tie_mean.specs.Names.{is_named, function_at}
use Rattle.tie_mean.specs.Counts.{Seen, seen_behind, times_with, reads_at}
use Rattle.tie_grammar.specs.declared.tree.Decl.{Decl}
use Rattle.tie_grammar.specs.declared.tree.Function.{Function}

more : (seen : Seen) (o : Option Function) (name : List ℕ) (i : ℕ) → 0 < seen.times name i → 0 < times_with seen o name i
more seen None name i h = h
more seen (Some f) name i h =
    elim (is_named name f.name) as (λ b. 0 < (if b then 1 + reads_at seen f f.parameters i else seen.times name i)) [ true ↦ omega arith | false ↦ h ]

pub times_once : (is_table : List ℕ → Bool) (decls : List Decl) (k : ℕ) (name : List ℕ) (i : ℕ) → 0 < (seen_behind is_table decls k).times name i
times_once is_table decls zero name i = omega arith
times_once is_table decls (suc k) name i = more (seen_behind is_table decls k) (function_at decls k) name i (times_once is_table decls k name i)
