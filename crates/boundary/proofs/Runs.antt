-- What is reported, from what the calls of a session say.
use Rattle.std.proofs.Common.{◌≡◌, ℕ, List, Result, ap, ◌∙◌}
use Rattle.rulebook.specs.Tables.{Table}
use Rattle.session.specs.declared.calls.Outcome.{Outcome}
use Rattle.session.specs.declared.calls.SessionFault.{SessionFault}
use Rattle.session.specs.declared.trail.TrailRecord.{TrailRecord}
use Rattle.session.specs.States.{State, open_session}
use Rattle.boundary.specs.Calls.{request_and_settle_answer, request_and_settle_leaves, new_session, on_report}

-- opened in memory for as many items as there are
pub opened-as : (s : State) (n places marks m : ℕ) → s ≡ open_session n places marks → n ≡ m → places ≡ m → marks ≡ m → s ≡ open_session m m m
opened-as s n places marks m e items p q =
    e ∙ ap (λ k. open_session k places marks) items ∙ ap (λ k. open_session m k marks) p ∙ ap (λ k. open_session m m k) q

pub reports : {A : Type 0} (report : List TrailRecord → Result Outcome SessionFault → A) (t u : Table) (is : List ℕ) (budget : ℕ) (s after : State) (outcome : Result Outcome SessionFault) →
    t ≡ u → s ≡ new_session t → outcome ≡ request_and_settle_answer s t is budget → after ≡ request_and_settle_leaves s t is budget →
    report after.trail outcome ≡ on_report u is budget report
reports report t u is budget s after outcome same begun answered left =
    ap (report after.trail) answered
    ∙ ap (λ z. report z.trail (request_and_settle_answer s t is budget)) left
    ∙ ap (λ z. report (request_and_settle_leaves z t is budget).trail (request_and_settle_answer z t is budget)) begun
    ∙ ap (λ t. on_report t is budget report) same
