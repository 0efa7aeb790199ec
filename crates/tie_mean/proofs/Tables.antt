-- Tables: declarations of functions change none.
use Rattle.std.proofs.Common.{◌≡◌, ℕ, zero, suc, Bool, true, cond, List, [], ◌∷◌, map, refl, ap, ◌∙◌}
use Rattle.tie_mean.specs.Counts.{seen_behind}
use Rattle.tie_mean.specs.Names.{has, is_among, is_named, table_declared, table_named, tables}
use Rattle.tie_mean.specs.Setters.{leaf_names}
use Rattle.tie_mean.specs.CountScope.{AreTables, seen_in}
use Rattle.tie_mean.specs.declared.scope.CountScope.{CountScope}
use Rattle.tie_grammar.specs.declared.tree.Table.{Table}
use Rattle.tie_grammar.specs.declared.tree.Decl.{Decl}

pub tables_stay : (is_table : List ℕ → Bool) (decls : List Decl) (k : ℕ) (name : List ℕ) → is_table name ≡ (seen_behind is_table decls k).is_table name
tables_stay is_table decls zero name = refl
tables_stay is_table decls (suc k) name = tables_stay is_table decls k name

among_tables : (ts : List Table) (name : List ℕ) → has (map (λ x. x.name.bytes) ts) name ≡ is_among (map table_declared ts) name
among_tables [] name = refl
among_tables (t ∷ ts) name = ap (λ b. cond (is_named name t.name) true b) (among_tables ts name)

-- a name among those of the tables
pub table_known : (s : CountScope) (name : List ℕ) → AreTables s.tables.now s.tree.now → has (leaf_names s.tables.now) name ≡ (seen_in s).is_table name
table_known s name are =
    ap (λ ns. has ns name) are ∙ among_tables (tables s.tree.now) name ∙ tables_stay (table_named s.tree.now) s.tree.now.declarations s.declarations name
