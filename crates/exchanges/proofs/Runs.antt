-- The steps of a plain exchange, as loops take them. Assumes nothing.
use Rattle.std.proofs.Common.{◌≡◌, ℕ, ◌*◌, ◌≤◌, List, ◌++◌, length, take, drop, replicate, None, Option, sym, refl, ap, ◌∙◌, arith}
use Rattle.exchanges.specs.Plane.{Plane, turn, after}
use Rattle.exchanges.specs.Ran.{heard_at}
use Rattle.exchanges.specs.Places.{from_plane, from_take, from_front}
use Rattle.exchanges.specs.Plain.{from_each, plain_run}

-- what the loops leave is what a plain exchange leaves
pub plain_ran : {I : Type 0} (n : ℕ) (b b₁ b' : Plane I) (x h h' : List (Option I)) → n ≡ b.boards → b₁ ≡ after b turn → heard_at b' h' ≡ from_each n x (heard_at b₁ h) n → b.boards * b.boards ≤ length h → (b' ≡ (plain_run b (take b.boards x)).plane) × (h' ≡ (plain_run b (take b.boards x)).slots ++ drop (b.boards * b.boards) h)
plain_ran {I} n b b₁ b' x h h' en eb e room =
    let m = b.boards in
    let e' : heard_at b' h' ≡ from_each m x (heard_at (after b turn) h) m = e ∙ (λ i. from_each (en i) x (heard_at (eb i) h) (en i)) in
    let z : List (Option I) = replicate (m * m) None in
    let cut = sym (from_take m x (heard_at (after b turn) z) m (omega arith)) in
    (ap (λ k. k.plane) e' ∙ from_plane m x (heard_at (after b turn) h) (heard_at (after b turn) z) m refl ∙ ap (λ k. k.plane) cut, ap (λ k. k.slots) e' ∙ from_front m x (after b turn) h room ∙ ap (λ k. k.slots ++ drop (m * m) h) cut)
