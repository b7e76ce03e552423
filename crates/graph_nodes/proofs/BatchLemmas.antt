-- Tasks that were begun, and those that are done.
use Rattle.std.proofs.Common.{◌≡◌, zero, List, [], ◌∷◌, ◌++◌, drop, length, Bool, true, false, arith, ap, sym, ◌∙◌, refl, subst, append_assoc, length-append}
use Rattle.std.specs.Prelude.{slice_get}
use Rattle.std.proofs.lemmas.List.{append-nil}
use Rattle.std.proofs.lemmas.Option.{same_Some}
use Rattle.graph_nodes.specs.Tasks.{IsDone, IsTakenIn}
use Rattle.graph_nodes.specs.Sending.{ArePairs}
use Rattle.graph_nodes.specs.Joining.{AreBegun}
use Rattle.graph_nodes.specs.declared.tasks.Task.{Task}
use Rattle.graph_nodes.proofs.PairLemmas.{pairs_more}

pub none_of_length : {X : Type 0} (xs : List X) → length xs ≡ 0 → xs ≡ []
none_of_length [] none = refl
none_of_length (x ∷ xs) none = absurd (omega arith)

pub same_last : {X : Type 0} (xs ys : List X) (x y : X) → xs ++ x ∷ [] ≡ ys ++ y ∷ [] → (xs ≡ ys) × (x ≡ y)
same_last [] [] x y same = (refl, same_Some x y (ap (λ l. slice_get l zero) same))
same_last [] (z ∷ zs) x y same = absurd (omega (arith, ap length same, length-append zs (y ∷ [])))
same_last (z ∷ zs) [] x y same = absurd (omega (arith, ap length same, length-append zs (x ∷ [])))
same_last (z ∷ zs) (w ∷ ws) x y same =
    let first = same_Some z w (ap (λ l. slice_get l zero) same) in
    let rest = same_last zs ws x y (ap (drop 1) same) in
    (ap (λ v. v ∷ zs) first ∙ ap (λ l. w ∷ l) rest.0, rest.1)

pub not_both : {X : Type 0} (b : Bool) → b ≡ true → b ≡ false → X
not_both true is not = absurd (cc)
not_both false is not = absurd (cc)

-- no tasks are begun yet
pub none_begun : {B : Type 0} (is_of : B → Task → Type 0) (begun : List B) (all : List Task) → begun ≡ [] →
    (rest : List Task) × (all ++ rest ≡ all) × AreBegun is_of begun rest
unfolding AreBegun
none_begun is_of begun all none = ([], append-nil all, none)

-- one more is begun, the last one of those that were left
pub one_begun : {B : Type 0} (is_of : B → Task → Type 0) (tasks left all : List Task) (task : Task) (begun more : List B) (b : B) →
    tasks ≡ left ++ task ∷ [] → ((rest : List Task) × (tasks ++ rest ≡ all) × AreBegun is_of begun rest) → is_of b task →
    more ≡ begun ++ b ∷ [] → (rest : List Task) × (left ++ rest ≡ all) × AreBegun is_of more rest
unfolding AreBegun
one_begun is_of tasks left all task begun more b popped (rest, whole, was) is grown = (
  task ∷ rest,
  sym (append_assoc left (task ∷ []) rest) ∙ ap (λ (l : List Task). l ++ rest) (sym popped) ∙ whole,
  (begun, b, grown, is, was),
)

pub all_begun : {B : Type 0} (is_of : B → Task → Type 0) (tasks all : List Task) (begun : List B) → length tasks ≡ 0 →
    ((rest : List Task) × (tasks ++ rest ≡ all) × AreBegun is_of begun rest) → AreBegun is_of begun all
all_begun is_of tasks all begun none (rest, whole, was) =
    subst (AreBegun is_of begun) (ap (λ (l : List Task). l ++ rest) (sym (none_of_length tasks none)) ∙ whole) was

-- The first tasks are done, and the others begun.
pub record AreLeft {B : Type 0} (is_of : B → Task → Type 0) (tasks : List Task) (left : List B) (ended : List Task) (whole : Bool) : Type 0 where
  pub before : List Task
  pub rest : List Task
  pub parts : tasks ≡ before ++ rest
  pub begun : AreBegun is_of left rest
  pub done : whole ≡ true → ArePairs IsTakenIn before ended

pub one_done : {B : Type 0} (is_of : B → Task → Type 0) (tasks : List Task) (begun more : List B) (b : B) (done after : List Task)
    (whole now : Bool) (task : Task) → begun ≡ more ++ b ∷ [] → AreLeft is_of tasks begun done whole →
    ((t : Task) → is_of b t → IsDone t task) →
    (now ≡ true → (whole ≡ true) × (after ≡ done ++ task ∷ []) × (task.failed ≡ false)) → AreLeft is_of tasks more after now
unfolding AreBegun
one_done {B} is_of tasks begun more b done after whole now task popped are is kept =
    on are.rest are.parts are.begun
  where
    on : (rest : List Task) → tasks ≡ are.before ++ rest → AreBegun is_of begun rest → AreLeft is_of tasks more after now
    on [] parts none = absurd (omega (arith, ap length (sym popped ∙ none), length-append more (b ∷ [])))
    on (first ∷ rest) parts (others, last, split, of_first, was) =
        let same = same_last more others b last (sym popped ∙ split) in
        let of_b : is_of b first = subst (λ (x : B). is_of x first) (sym same.1) of_first in
        record {
          before = are.before ++ first ∷ [];
          rest = rest;
          parts = parts ∙ sym (append_assoc are.before (first ∷ []) rest);
          begun = subst (λ (l : List B). AreBegun is_of l rest) (sym same.0) was;
          done = λ all.
              let k = kept all in
              let of_done = is first of_b in
              subst (ArePairs IsTakenIn (are.before ++ first ∷ [])) (sym k.1)
              (pairs_more IsTakenIn are.before done first task (are.done k.0) (record {
                grows = of_done.grows;
                found = of_done.found k.2;
              }));
        }

pub none_done : {B : Type 0} (is_of : B → Task → Type 0) (tasks : List Task) (begun : List B) (done : List Task) →
    AreBegun is_of begun tasks → ArePairs IsTakenIn [] done → AreLeft is_of tasks begun done true
none_done is_of tasks begun done are none = record {
  before = [];
  rest = tasks;
  parts = refl;
  begun = are;
  done = λ _. none;
}

pub all_done : {B : Type 0} (is_of : B → Task → Type 0) (tasks : List Task) (begun : List B) (done : List Task) (whole : Bool) →
    length begun ≡ 0 → whole ≡ true → AreLeft is_of tasks begun done whole → ArePairs IsTakenIn tasks done
unfolding AreBegun
all_done {B} is_of tasks begun done whole none all are = on are.rest are.parts are.begun
  where
    on : (rest : List Task) → tasks ≡ are.before ++ rest → AreBegun is_of begun rest → ArePairs IsTakenIn tasks done
    on [] parts _ =
        subst (λ (l : List Task). ArePairs IsTakenIn l done) (sym (parts ∙ append-nil are.before)) (are.done all)
    on (first ∷ rest) parts (others, last, split, of_first, was) =
        absurd (omega (arith, none, ap length split, length-append others (last ∷ [])))
