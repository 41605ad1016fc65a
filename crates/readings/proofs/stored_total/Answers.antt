use Rattle.std.proofs.Common.{rules, ℕ, Bool, not, Some, None, ◌≡◌, sym, ◌∙◌}
use Rattle.plan.specs.Search.{first, first_no}
use Rattle.plan.proofs.Searching.{at_iff}
use Rattle.drafts.specs.Drafts.{places}
use Rattle.drafts.proofs.Stored.{test, stored_at, stored_none}
use Rattle.readings.proofs.stored_total.Goals as goal

pub first_no-requires : goal.first_no-requires
unfolding places
first_no-requires c = λ i l r. search rules

pub total_at-requires : goal.total_at-requires
unfolding places
total_at-requires c =
    let a = c.args in let other : ℕ → Bool = λ q. not (test a.words.now a.task a.job q) in
    let e : first_no 2048 other ≡ Some c.in-Some.place = sym (c.first_no.ensures other (λ i b l r h. search rules)) ∙ c.in-Some.is in
    (c.requires, ((at_iff other 2048 c.in-Some.place).0 e).below)

pub returns-in-Some : goal.returns-in-Some
unfolding places first
returns-in-Some c =
    let a = c.args in let other : ℕ → Bool = λ q. not (test a.words.now a.task a.job q) in
    let e : first_no 2048 other ≡ Some c.in-Some.place = sym (c.first_no.ensures other (λ i b l r h. search rules)) ∙ c.in-Some.is in
    c.total_at.ensures ∙ sym (stored_at a.words.now a.task a.job c.in-Some.place e)

pub returns-in-None : goal.returns-in-None
unfolding places first
returns-in-None c =
    let a = c.args in let other : ℕ → Bool = λ q. not (test a.words.now a.task a.job q) in
    let e : first_no 2048 other ≡ None = sym (c.first_no.ensures other (λ i b l r h. search rules)) ∙ c.in-None.is in
    sym (stored_none a.words.now a.task a.job e)
