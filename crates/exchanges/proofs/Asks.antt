-- What a call that ran an exchange answers, as the exchange over the backplane says it. Assumes nothing.
use Rattle.std.proofs.Common.{◌≡◌, ℕ, ◌*◌, Bool, ◌||◌, ltb, List, [], ◌++◌, length, take, drop, Some, None, Ok, Err, Option, Result, ap, subst}
use Rattle.labels.specs.declared.refusal.Refusal.{Refusal}
use Rattle.labels.specs.Refusals.{row}
use Rattle.exchanges.specs.Plane.{Plane}
use Rattle.exchanges.specs.Exchange.{Exchange, Ask, plain, firm, rounds, after_ask}
use Rattle.exchanges.specs.Asked.{due, short, Asked, PlainAsked, FirmAsked, Kept}
use Rattle.exchanges.specs.Plain.{plain_run}
use Rattle.exchanges.specs.Over.{Way, run, over}
use Rattle.exchanges.specs.Ran.{Ran}
use Rattle.exchanges.proofs.Dues.{undue}
use Rattle.exchanges.specs.Overs.{Well, over_after}

module _ {I B U : Type 0} (w : Way I) (well : Well w) (plane : B → Plane I) where
  -- make puts a backplane into what holds it, which means the exchange over that backplane
  asked_in : {X : Type 0} (meaning : X → Exchange I) (make : B → X) → ((c : B) → over w (plane c) ≡ meaning (make c)) → (b b' : B) (a : Exchange I → Ask I) (d : Exchange I → Option ℕ) (h h' : List (Option I)) (r : Result U Refusal) → Asked (λ c. over w (plane c)) b b' (a (over w (plane b))) (d (over w (plane b))) h h' r → Asked meaning (make b) (make b') (a (meaning (make b))) (d (meaning (make b))) h h' r
  asked_in meaning make is b b' a d h h' (Ok u) k =
      let P : Exchange I → Exchange I → Type 0 = λ m m'. (d m ≡ None) × (m' ≡ after_ask m (a m)) × (h' ≡ m.fills [] (a m) ++ drop (m.boards * m.boards) h) in
      subst (λ m. P m (meaning (make b'))) (is b) (subst (P (over w (plane b))) (is b') k)
  asked_in meaning make is b b' a d h h' (Err e) k =
      (subst (λ m. d m ≡ Some (row e)) (is b) k.0, ap make k.1, k.2)

  -- ask is the one or the other of plain and firm
  asked_of : (ask : List (Option I) → Ask I) (b b' : B) (x : List (Option I)) (sh : Bool) (h h' : List (Option I)) (r : Result U Refusal) → Ran plane (λ c y. run w c (ask y)) b b' x (due (plane b).boards w.faults sh (plane b).round (rounds w.firm_rounds (ask (take (plane b).boards x)))) h h' r → Asked (λ c. over w (plane c)) b b' (ask (take (plane b).boards x)) (due (plane b).boards w.faults sh (plane b).round (rounds w.firm_rounds (ask (take (plane b).boards x)))) h h' r
  asked_of ask b b' x sh h h' (Ok u) k =
      let a = ask (take (plane b).boards x) in
      let goes = undue (plane b).boards w.faults (plane b).round (rounds w.firm_rounds a) sh k.0 in
      (k.0, over_after w well (plane b) (plane b') a goes.fit goes.timely k.1, k.2)
  asked_of ask b b' x sh h h' (Err e) k = k

  module _ {X : Type 0} (meaning : X → Exchange I) (make : B → X) (is : (c : B) → over w (plane c) ≡ meaning (make c)) where
    pub plain_asked : (b b' : B) (x h h' : List (Option I)) (r : Result U Refusal) → Ran plane plain_run b b' x (due (plane b).boards w.faults (short (plane b).boards x h) (plane b).round 1) h h' r → PlainAsked meaning (make b) (make b') x h h' r
    plain_asked b b' x h h' r k =
        asked_in meaning make is b b' (λ m. plain (take m.boards x)) (λ m. due m.boards m.faults (short m.boards x h) m.round 1) h h' r (asked_of plain b b' x (short (plane b).boards x h) h h' r k)

    pub firm_asked : (b b' : B) (x h h' work work' : List (Option I)) (r : Result U Refusal) → Ran plane w.firm_run b b' x (due (plane b).boards w.faults (short (plane b).boards x h || ltb (length work) (over w (plane b)).workspace) (plane b).round w.firm_rounds) h h' r → Kept (over w (plane b)).workspace work work' r → FirmAsked meaning (make b) (make b') x h h' work work' r
    firm_asked b b' x h h' work work' r k same = record {
      asked = asked_in meaning make is b b' (λ m. firm (take m.boards x)) (λ m. due m.boards m.faults (short m.boards x h || ltb (length work) m.workspace) m.round m.firm_rounds) h h' r (asked_of firm b b' x (short (plane b).boards x h || ltb (length work) (over w (plane b)).workspace) h h' r k);
      kept = subst (λ m. Kept m.workspace work work' r) (is b) same;
    }
