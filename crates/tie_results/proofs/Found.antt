-- What is found by a name among functions and tables.
use Rattle.std.proofs.Common.{◌≡◌, ℕ, Bool, true, false, if◌then◌else◌, List, [], ◌∷◌, map, Option, Some, None, refl}
use Rattle.std.specs.Option.{is_some, unwrap_or, option_map}
use Rattle.tie_mean.specs.Names.{is_named, is_among, width_in, function_declared, table_declared, parameters_in}
use Rattle.tie_mean.specs.Operations.{entries_in}
use Rattle.tie_grammar.specs.declared.tree.Table.{Table}
use Rattle.tie_grammar.specs.declared.tree.Function.{Function}
use Rattle.tie_results.specs.Texts.{first_function, first_table, function_width, parameter_widths, table_width, table_entries}

pub function_found : (fs : List Function) (name : List ℕ) → width_in (map function_declared fs) name ≡ function_width (first_function fs name)
function_found [] name = refl
function_found (f ∷ fs) name =
    elim (is_named name f.name) as (λ b. (if b then (function_declared f).width else width_in (map function_declared fs) name) ≡ function_width (if b then Some f else first_function fs name))
    [ true ↦ refl | false ↦ function_found fs name ]

pub parameters_found : (fs : List Function) (name : List ℕ) → parameters_in fs name ≡ parameter_widths (first_function fs name)
parameters_found [] name = refl
parameters_found (f ∷ fs) name =
    elim (is_named name f.name) as (λ b. (if b then parameter_widths (Some f) else parameters_in fs name) ≡ parameter_widths (if b then Some f else first_function fs name))
    [ true ↦ refl | false ↦ parameters_found fs name ]

pub table_found : (xs : List Table) (name : List ℕ) → width_in (map table_declared xs) name ≡ table_width (first_table xs name)
table_found [] name = refl
table_found (x ∷ xs) name =
    elim (is_named name x.name) as (λ b. (if b then (table_declared x).width else width_in (map table_declared xs) name) ≡ table_width (if b then Some x else first_table xs name))
    [ true ↦ refl | false ↦ table_found xs name ]

pub among_found : (xs : List Table) (name : List ℕ) → is_among (map table_declared xs) name ≡ is_some (first_table xs name)
among_found [] name = refl
among_found (x ∷ xs) name =
    elim (is_named name x.name) as (λ b. (if b then true else is_among (map table_declared xs) name) ≡ is_some (if b then Some x else first_table xs name))
    [ true ↦ refl | false ↦ among_found xs name ]

pub entries_found : (xs : List Table) (name : List ℕ) → entries_in xs name ≡ table_entries (first_table xs name)
entries_found [] name = refl
entries_found (x ∷ xs) name =
    elim (is_named name x.name) as (λ b. (if b then table_entries (Some x) else entries_in xs name) ≡ table_entries (if b then Some x else first_table xs name))
    [ true ↦ refl | false ↦ entries_found xs name ]

pub ruleset found_by_name = (function_found, table_found, among_found)

pub ruleset parameters_by_name = (parameters_found)
