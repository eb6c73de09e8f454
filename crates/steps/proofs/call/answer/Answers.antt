-- `answer` meets its contract: the number says whether the run finished.
use Rattle.definitions.specs.Answers.{steps_meaning}
use Rattle.steps.proofs.call.answer.Goals as goal

pub returns-in-Finished : goal.returns-in-Finished
unfolding steps_meaning
returns-in-Finished c u =
    let r = c.reached.ensures in
    rw c.in-Finished.is (λ i. record { number = 0; value = r.value i; quotient = r.quotient i; steps = r.steps i })

pub returns-in-Unfinished : goal.returns-in-Unfinished
unfolding steps_meaning
returns-in-Unfinished c u =
    let r = c.reached-in-Unfinished.ensures in
    rw c.in-Unfinished.is (λ i. record { number = u; value = r.value i; quotient = r.quotient i; steps = r.steps i })
