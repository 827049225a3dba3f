-- Carries one after the other: the loops over senders and paths make the carries of a round in its order.
use Rattle.std.proofs.lemmas.Grind.{common_steps}
use Rattle.std.proofs.Common.{◌≡◌, ℕ, ◌+◌, ◌<◌, List, [], ◌∷◌, ◌++◌, map, length, get_or, take, fold, Option, sym, refl, ap, ◌∙◌, subst, add-one, arith}
use Rattle.std.specs.List.{flat_map, AllByRecursion}
use Rattle.std.proofs.lemmas.List.{append-nil, take_more, take_all}
use Rattle.std.proofs.lemmas.List.Concat.{flat_map-append}
use Rattle.std.proofs.lemmas.List.Folds.{flat_map-map}
use Rattle.std.proofs.lemmas.List.Sums.{fold-append}
use Rattle.exchanges.specs.declared.path.Path.{Path}
use Rattle.exchanges.specs.declared.path.Shape.{Shape}
use Rattle.exchanges.specs.Plane.{Plane}
use Rattle.exchanges.specs.Trees.{IsPath, others, level, rank, paths_of, Hop, hops}
use Rattle.exchanges.specs.Slots.{trail, Work, Worked, hops_from, hops_to}
use Rattle.exchanges.specs.Counts.{all_of}
use Rattle.exchanges.specs.Ranks.{rank_at, length_level}
use Rattle.exchanges.proofs.Trail.{length_trail}

pub joined_alike : {X Y : Type 0} (f g : Y → List X) (ys : List Y) → AllByRecursion (λ y. f y ≡ g y) ys → flat_map f ys ≡ flat_map g ys
joined_alike f g [] h = refl
joined_alike f g (y ∷ ys) h = cc (h.0, joined_alike f g ys h.1)

-- work that goes on from where earlier work ended
pub work_on : {I : Type 0} (f : Work I → Hop → Work I) (b b' : Plane I) (ws ws' : List (Option I)) (w : Work I) (hs : List Hop) → Worked b ws w → Worked b' ws' (fold f (record { plane = b; slots = ws }) hs) → Worked b' ws' (fold f w hs)
work_on {I} f b b' ws ws' w hs k h = grind (arith, common_steps)

-- one path more of a level
module _ {X : Type 0} (f : List ℕ → List X) (path : Path) (s : Shape) (k i : ℕ) (same : path.shape ≡ s) (long : path.len ≡ k) (is : path.index ≡ i) (l : i < paths_of s.n k) where
  abbrev α : List ℕ
  α = trail path.boards path.len

  here : get_or (level s.n k) i [] ≡ α
  here = ap (λ (m : ℕ). get_or (level s.n m) i []) (sym long ∙ sym (length_trail path.boards path.len)) ∙ ap (λ (j : ℕ). get_or (level s.n (length α)) j []) (sym is ∙ path.placed ∙ ap (λ (x : Shape). rank x.n α) same) ∙ rank_at s.n α (subst (λ (x : Shape). IsPath x.n α) same path.differ)

  pub level_more : flat_map f (take (i + 1) (level s.n k)) ≡ flat_map f (take i (level s.n k)) ++ f α
  level_more =
      ap (flat_map f) (take_more (level s.n k) i [] (omega (arith, length_level s.n k)) ∙ ap (λ (β : List ℕ). take i (level s.n k) ++ (β ∷ [])) here) ∙ flat_map-append f (take i (level s.n k)) (α ∷ []) ∙ ap (λ l. flat_map f (take i (level s.n k)) ++ l) (append-nil (f α))

  pub fold_more : {B : Type 0} (g : B → X → B) (w : B) → fold g w (flat_map f (take (i + 1) (level s.n k))) ≡ fold g (fold g w (flat_map f (take i (level s.n k)))) (f α)
  fold_more g w = ap (fold g w) level_more ∙ fold-append g w (flat_map f (take i (level s.n k))) (f α)

-- all paths of a level
pub level_all : {X : Type 0} (f : List ℕ → List X) (n k i : ℕ) → i ≡ paths_of n k → flat_map f (take i (level n k)) ≡ flat_map f (level n k)
level_all f n k i e = ap (flat_map f) (take_all i (level n k) (omega (arith, length_level n k)))

joined_joined : {X Y Z : Type 0} (f : Y → List X) (g : Z → List Y) (zs : List Z) → flat_map f (flat_map g zs) ≡ flat_map (λ z. flat_map f (g z)) zs
joined_joined f g [] = refl
joined_joined f g (z ∷ zs) = flat_map-append f (g z) (flat_map g zs) ∙ ap (λ l. flat_map f (g z) ++ l) (joined_joined f g zs)

-- the carries of a round, path by path
pub hops_level : (n r : ℕ) → flat_map (hops_to n) (level n (r + 1)) ≡ hops n r
hops_level n r =
    let longer : List ℕ → List (List ℕ) = λ α. map (λ q. q ∷ α) (others n α) in
    let on : List ℕ → List Hop = λ α. flat_map (hops_from n α) (others n α) in
    ap (λ (m : ℕ). flat_map (hops_to n) (level n m)) (add-one r) ∙ joined_joined (hops_to n) longer (level n r) ∙ joined_alike (λ α. flat_map (hops_to n) (longer α)) on (level n r) (all_of _ (λ α. flat_map-map (hops_to n) (λ q. q ∷ α) (others n α)) (level n r))
