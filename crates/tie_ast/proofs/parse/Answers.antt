use Rattle.std.proofs.Common.{◌≡◌, ◌<◌, ◌-◌, length, take, sym, ap, ◌∙◌, arith}
use Rattle.tie_ast.specs.Symbols.{symbols, place_at}
use Rattle.tie_ast.proofs.ParseLaw.{IsAllowed, tree_is, cut_is, fault_is, left_le}
use Rattle.tie_ast.proofs.parse.Goals as goal

pub returns-then-allowed-len-clause-tree : goal.returns-then-allowed-len-clause-tree
returns-then-allowed-len-clause-tree c =
    let ts = c.as_slice.result.now in
    let n = c.allowed-allowed.result in
    let is : ts ≡ symbols c.args.text.now c.args.tokens.now = c.as_slice.ensures ∙ c.in_ok-symbols.ensures in
    let a : IsAllowed ts n = record { within = c.allowed-allowed.ensures.within; before = c.allowed-allowed.ensures.before; there = c.allowed-allowed.ensures.there } in
    tree_is c.args.text.now c.args.tokens.now ts _ n is (ap (take n) (c.as_slice-2.ensures ∙ sym c.as_slice.ensures)) a c.in-Ok.tree _ (c.if-allowed-len.true ∙ c.len.ensures ∙ ap length (sym c.as_slice.ensures)) c.in-Ok.ensures

pub returns-in-Ok-clause-fault : goal.returns-in-Ok-clause-fault
returns-in-Ok-clause-fault c place e =
    let ts = c.as_slice.result.now in
    let n = c.allowed-allowed.result in
    let is : ts ≡ symbols c.args.text.now c.args.tokens.now = c.as_slice.ensures ∙ c.in_ok-symbols.ensures in
    let a : IsAllowed ts n = record { within = c.allowed-allowed.ensures.within; before = c.allowed-allowed.ensures.before; there = c.allowed-allowed.ensures.there } in
    let below : n < length ts = omega (arith, c.len.ensures, ap length c.as_slice.ensures) in
    let at : place ≡ place_at c.args.text.now c.args.tokens.now n = cc (c.fault.ensures, e) in
    cut_is c.args.text.now c.args.tokens.now ts _ n is (ap (take n) (c.as_slice-2.ensures ∙ sym c.as_slice.ensures)) a c.in-Ok.tree _ place below c.in-Ok.ensures at

pub overflow_sub-allowed : goal.overflow_sub-allowed
overflow_sub-allowed c =
    let ts = c.as_slice.result.now in
    let n = c.allowed-allowed.result in
    let is : ts ≡ symbols c.args.text.now c.args.tokens.now = c.as_slice.ensures ∙ c.in_ok-symbols.ensures in
    let a : IsAllowed ts n = record { within = c.allowed-allowed.ensures.within; before = c.allowed-allowed.ensures.before; there = c.allowed-allowed.ensures.there } in
    left_le c.args.text.now c.args.tokens.now ts _ n is (ap (take n) (c.as_slice-2.ensures ∙ sym c.as_slice.ensures)) a c.in-Err-Fault.left (rw c.in-Err-Fault.field-0-is at c.in-Err-Fault.ensures)

pub returns-in-Err-Fault-clause-fault : goal.returns-in-Err-Fault-clause-fault
returns-in-Err-Fault-clause-fault c place e =
    let ts = c.as_slice.result.now in
    let n = c.allowed-allowed.result in
    let is : ts ≡ symbols c.args.text.now c.args.tokens.now = c.as_slice.ensures ∙ c.in_ok-symbols.ensures in
    let a : IsAllowed ts n = record { within = c.allowed-allowed.ensures.within; before = c.allowed-allowed.ensures.before; there = c.allowed-allowed.ensures.there } in
    let at : place ≡ place_at c.args.text.now c.args.tokens.now (n - c.in-Err-Fault.left) = cc (c.fault-in-Err-Fault.ensures, e) in
    fault_is c.args.text.now c.args.tokens.now ts _ n is (ap (take n) (c.as_slice-2.ensures ∙ sym c.as_slice.ensures)) a c.in-Err-Fault.left place (rw c.in-Err-Fault.field-0-is at c.in-Err-Fault.ensures) at
