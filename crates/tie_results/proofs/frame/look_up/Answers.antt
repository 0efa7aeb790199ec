use Rattle.std.proofs.Common.{◌≡◌, ℕ, List, length, map, ap, sym, subst, ◌∙◌, arith}
use Rattle.std.specs.Borrow.{Bor}
use Rattle.std.specs.List.{list_all}
use Rattle.tie_expr.specs.Meaning.{lookup_meaning}
use Rattle.tie_expr.specs.Tree.{meaning}
use Rattle.tie_mean.specs.Literals.{literal_fits, literal_value}
use Rattle.tie_translate.specs.Translation.{lookup_typed}
use Rattle.tie_grammar.specs.declared.tree.Table.{Table}
use Rattle.tie_grammar.specs.declared.tree.Literal.{Literal}
use Rattle.tie_results.specs.Bodies.{widths_of, env_behind}
use Rattle.tie_results.specs.Callees.{body_of}
use Rattle.tie_results.specs.Texts.{first_table, tables_in}
use Rattle.tie_results.proofs.Outcomes.{if_ok}
use Rattle.tie_results.proofs.Entries.{table_here, none_here, lookup_means}
use Rattle.tie_results.proofs.frame.look_up.Goals as goal

pub overflow_cast-width : goal.overflow_cast-width
overflow_cast-width c =
    let here = table_here (tables_in c.args.place.now.frame.now.text.now) c.args.name.now.bytes c.in-Some.table.now c.leaf_width-width.result
    (c.in-Some.ensures ∙ ap (λ (xs : List (Bor Table)). first_table (map (λ x. x.now) xs) c.args.name.now.bytes) c.deref.ensures.value) c.leaf_width-width.ensures c.requires.known c.requires.right.ready.tables in
    let high = here.high in
    omega (arith, high)

pub entries-requires-clause-high : goal.entries-requires-clause-high
entries-requires-clause-high c =
    (table_here (tables_in c.args.place.now.frame.now.text.now) c.args.name.now.bytes c.in-Some.table.now c.leaf_width-width.result
    (c.in-Some.ensures ∙ ap (λ (xs : List (Bor Table)). first_table (map (λ x. x.now) xs) c.args.name.now.bytes) c.deref.ensures.value) c.leaf_width-width.ensures c.requires.known c.requires.right.ready.tables).high

pub entries-requires-clause-fit : goal.entries-requires-clause-fit
entries-requires-clause-fit c =
    ap (λ (xs : List Literal). list_all (literal_fits c.leaf_width-width.result) xs) c.as_slice.ensures
    ∙ (table_here (tables_in c.args.place.now.frame.now.text.now) c.args.name.now.bytes c.in-Some.table.now c.leaf_width-width.result
    (c.in-Some.ensures ∙ ap (λ (xs : List (Bor Table)). first_table (map (λ x. x.now) xs) c.args.name.now.bytes) c.deref.ensures.value) c.leaf_width-width.ensures c.requires.known c.requires.right.ready.tables).fit

pub lookup-requires-clause-low : goal.lookup-requires-clause-low
lookup-requires-clause-low c =
    (table_here (tables_in c.args.place.now.frame.now.text.now) c.args.name.now.bytes c.in-Some.table.now c.leaf_width-width.result
    (c.in-Some.ensures ∙ ap (λ (xs : List (Bor Table)). first_table (map (λ x. x.now) xs) c.args.name.now.bytes) c.deref.ensures.value) c.leaf_width-width.ensures c.requires.known c.requires.right.ready.tables).low

pub lookup-requires-clause-high : goal.lookup-requires-clause-high
lookup-requires-clause-high c =
    (table_here (tables_in c.args.place.now.frame.now.text.now) c.args.name.now.bytes c.in-Some.table.now c.leaf_width-width.result
    (c.in-Some.ensures ∙ ap (λ (xs : List (Bor Table)). first_table (map (λ x. x.now) xs) c.args.name.now.bytes) c.deref.ensures.value) c.leaf_width-width.ensures c.requires.known c.requires.right.ready.tables).high

pub lookup-requires-clause-few : goal.lookup-requires-clause-few
lookup-requires-clause-few c =
    let here = table_here (tables_in c.args.place.now.frame.now.text.now) c.args.name.now.bytes c.in-Some.table.now c.leaf_width-width.result
    (c.in-Some.ensures ∙ ap (λ (xs : List (Bor Table)). first_table (map (λ x. x.now) xs) c.args.name.now.bytes) c.deref.ensures.value) c.leaf_width-width.ensures c.requires.known c.requires.right.ready.tables in
    let few = here.few in
    let many = c.in_ok-entries-in-Some.ensures.many in
    let same = ap (λ (xs : List Literal). length xs) c.as_slice.ensures in
    omega (arith, few, many, same)

pub unreachable-requires : goal.unreachable-requires
unreachable-requires c =
    none_here (tables_in c.args.place.now.frame.now.text.now) c.args.name.now.bytes
    (c.in-None.ensures ∙ ap (λ (xs : List (Bor Table)). first_table (map (λ x. x.now) xs) c.args.name.now.bytes) c.deref.ensures.value) c.requires.known

pub returns-clause-means : goal.returns-clause-means
returns-clause-means c =
    let here = table_here (tables_in c.args.place.now.frame.now.text.now) c.args.name.now.bytes c.in-Some.table.now c.leaf_width-width.result
    (c.in-Some.ensures ∙ ap (λ (xs : List (Bor Table)). first_table (map (λ x. x.now) xs) c.args.name.now.bytes) c.deref.ensures.value) c.leaf_width-width.ensures c.requires.known c.requires.right.ready.tables in
    if_ok c.lookup.result (λ e. meaning e ≡ lookup_meaning (meaning c.args.index) c.in_ok-entries-in-Some.entries.items c.leaf_width-width.result)
    (λ e. meaning e ≡ lookup_typed (widths_of (body_of c.args.place.now.frame.now)) (env_behind (body_of c.args.place.now.frame.now) (length c.args.place.now.made.now)) c.args.name.now.bytes (meaning c.args.index))
    (λ e h. lookup_means (body_of c.args.place.now.frame.now) (length c.args.place.now.made.now) c.args.name.now.bytes c.in-Some.table.now c.leaf_width-width.result c.in_ok-entries-in-Some.entries.items (meaning c.args.index) (meaning e)
    here (c.in_ok-entries-in-Some.ensures.are ∙ ap (λ (xs : List Literal). map literal_value xs) c.as_slice.ensures) h)
    c.lookup.ensures.means
