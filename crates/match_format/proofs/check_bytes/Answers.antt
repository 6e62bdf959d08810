-- The goals of `match_format::check_bytes` that the check leaves.
use Rattle.std.proofs.Common.{rules, arith, ◌≡◌, ◌∙◌, sym, ap, ◌+◌, ◌-◌, option_map, not, Bool, take, drop, ℕ}
use Rattle.std.proofs.lemmas.Iterator.{YieldsList-from_slice}
use Rattle.std.proofs.lemmas.Iterator.Search.{position_from_yields_List}
use borrow.Author.Tests.{tests}
use Rattle.match_format.specs.Faults.{within, faulty}
use Rattle.match_format.proofs.Chains.{found}
use Rattle.match_format.proofs.check_bytes.Goals as goal

pub returns-in-Some : goal.returns-in-Some
returns-in-Some c =
    let right : ℕ → Bool = within c.args.lo c.args.hi in
    let n : c.args.at + c.args.size - c.args.at ≡ c.args.size = omega arith in
    ap (option_map (λ k. c.args.at + k)) (sym c.in-Some.is)
    ∙ found right c.args.at _ c.position.result (position_from_yields_List (λ b. not (right b)) _ _ c.position.result c.position.ensures.ran (YieldsList-from_slice _ cc) (λ x b q k. search (rules, tests)))
    ∙ ap (λ k. faulty right c.args.at (take k (drop c.args.at c.args.file.now))) n

pub returns-in-None : goal.returns-in-None
returns-in-None c =
    let right : ℕ → Bool = within c.args.lo c.args.hi in
    let n : c.args.at + c.args.size - c.args.at ≡ c.args.size = omega arith in
    ap (option_map (λ k. c.args.at + k)) (sym c.in-None.is)
    ∙ found right c.args.at _ c.position.result (position_from_yields_List (λ b. not (right b)) _ _ c.position.result c.position.ensures.ran (YieldsList-from_slice _ cc) (λ x b q k. search (rules, tests)))
    ∙ ap (λ k. faulty right c.args.at (take k (drop c.args.at c.args.file.now))) n
