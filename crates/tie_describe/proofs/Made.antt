-- An operation as it is made.
use Rattle.std.proofs.Common.{◌≡◌, ℕ, List, Bool, refl, ap, sym, ◌∙◌, map}
use Rattle.tie_expr.specs.declared.node.Node.{Node}
use Rattle.tie_desc.specs.declared.declarations.StateDecl.{StateDecl}
use Rattle.tie_desc.specs.declared.declarations.FileDecl.{FileDecl}
use Rattle.tie_desc.specs.declared.declarations.RangeDecl.{RangeDecl}
use Rattle.tie_desc.specs.declared.declarations.QueueDecl.{QueueDecl}
use Rattle.tie_desc.specs.declared.declarations.Operand.{Operand}
use Rattle.tie_desc.specs.declared.declarations.OpDecl.{OpDecl}
use Rattle.tie_grammar.specs.declared.tree.Argument.{Argument}
use Rattle.tie_grammar.specs.declared.tree.Link.{Link}
use Rattle.tie_grammar.specs.declared.tree.Operation.{Operation}
use Rattle.tie_grammar.specs.declared.tree.ScheduleItem.{ScheduleItem}
use Rattle.tie_grammar.specs.declared.tree.Tree.{Tree}
use Rattle.tie_describe.specs.Operations.{operand, operation, argument_kind, link_kind, schedule_of, uses_late, argument, link, states, files, ranges, inputs, outputs}
use Rattle.tie_describe.specs.Scope.{IsScope}
use Rattle.tie_describe.specs.declared.operands.Scope.{Scope}

abbrev args_with : Tree → Operation → List FileDecl → List RangeDecl → List Operand
args_with t o files ranges =
    map (λ (x : Argument). operand (schedule_of t o.name) (uses_late (schedule_of t o.name) o) x.name x.direction (argument_kind files ranges x.kind)) o.arguments

abbrev links_with : Tree → Operation → List StateDecl → List QueueDecl → List QueueDecl → List Operand
links_with t o states inputs outputs =
    map (λ (x : Link). operand (schedule_of t o.name) (uses_late (schedule_of t o.name) o) x.name x.direction (link_kind states inputs outputs x.name.bytes)) o.links

abbrev made_with : Tree → Operation → List ℕ → List Operand → List Operand → List Node → OpDecl
made_with t o name args links results = record { name = name; args = args; links = links; results = results }

pub operation_made : (t : Tree) (o : Operation) (s : Scope) → IsScope t s
    → (items : List ScheduleItem) → items ≡ schedule_of t o.name → (late : Bool) → late ≡ uses_late items o
    → (as' : List Argument) → as' ≡ o.arguments → (ls : List Link) → ls ≡ o.links
    → (args links : List Operand)
    → args ≡ map (λ (x : Argument). operand items late x.name x.direction (argument_kind s.files.now s.ranges.now x.kind)) as'
    → links ≡ map (λ (x : Link). operand items late x.name x.direction (link_kind s.states.now s.inputs.now s.outputs.now x.name.bytes)) ls
    → (name : List ℕ) (results : List Node) → name ≡ o.name.bytes
    → (made : OpDecl) → made ≡ record { name = name; args = args; links = links; results = results }
    → made ≡ operation t o results
operation_made t o s h items ei late el as' ea ls ell args links eargs elinks name results en made em =
    em ∙ ap (λ n. made_with t o n args links results) en
    ∙ ap (λ xs. made_with t o o.name.bytes xs links results) args_are ∙ ap (λ xs. made_with t o o.name.bytes (map (argument t o) o.arguments) xs results) links_are
  where
    args_are : args ≡ map (argument t o) o.arguments
    args_are =
        let same : late ≡ uses_late (schedule_of t o.name) o = el ∙ ap (λ is. uses_late is o) ei in
        eargs ∙ ap (λ is. map (λ (x : Argument). operand is late x.name x.direction (argument_kind s.files.now s.ranges.now x.kind)) as') ei
        ∙ ap (λ b. map (λ (x : Argument). operand (schedule_of t o.name) b x.name x.direction (argument_kind s.files.now s.ranges.now x.kind)) as') same
        ∙ ap (λ xs. map (λ (x : Argument). operand (schedule_of t o.name) (uses_late (schedule_of t o.name) o) x.name x.direction (argument_kind s.files.now s.ranges.now x.kind)) xs) ea
        ∙ ap (λ files. args_with t o files s.ranges.now) h.files ∙ ap (args_with t o (files t)) h.ranges

    links_are : links ≡ map (link t o) o.links
    links_are =
        let same : late ≡ uses_late (schedule_of t o.name) o = el ∙ ap (λ is. uses_late is o) ei in
        elinks ∙ ap (λ is. map (λ (x : Link). operand is late x.name x.direction (link_kind s.states.now s.inputs.now s.outputs.now x.name.bytes)) ls) ei
        ∙ ap (λ b. map (λ (x : Link). operand (schedule_of t o.name) b x.name x.direction (link_kind s.states.now s.inputs.now s.outputs.now x.name.bytes)) ls) same
        ∙ ap (λ xs. map (λ (x : Link). operand (schedule_of t o.name) (uses_late (schedule_of t o.name) o) x.name x.direction (link_kind s.states.now s.inputs.now s.outputs.now x.name.bytes)) xs) ell
        ∙ ap (λ states. links_with t o states s.inputs.now s.outputs.now) h.states ∙ ap (λ inputs. links_with t o (states t) inputs s.outputs.now) h.inputs
        ∙ ap (links_with t o (states t) (inputs t)) h.outputs
