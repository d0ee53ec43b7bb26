-- A small system, so that the theory is seen not to be empty. Two records, each a pair of numbers; a writer that fills the left
-- one in two bursts, and is refused with that one's first number where it is not 0; a reader of both. ExampleRun runs it.
use Rattle.std.specs.Prelude.{◌≡◌, refl, List, [], ◌∷◌, ℕ, ◌+◌}
use Rattle.std.proofs.Common.{sym, ◌∙◌, ap, ap₂}
use Rattle.serial.specs.Core.{Sys}

pub data Side : Type 0 where
  left : Side
  right : Side

pub data Req : Type 0 where
  fill : ℕ → ℕ → Req
  peek : Req

pub data Left : Type 0 where
  two : Left
  one : Left

abbrev pub Sees : Req → Side → Type 0
Sees (fill m n) left = Unit {0}
Sees (fill m n) right = ⊥
Sees peek X = Unit {0}

abbrev pub Writes : Req → Side → Type 0
Writes (fill m n) X = Sees (fill m n) X
Writes peek X = ⊥

abbrev pub num : Req → (Side → ℕ × ℕ) → ℕ
num (fill m n) s = (s left).0
num peek s = 0

abbrev pub ans : Req → (Side → ℕ × ℕ) → List (ℕ × ℕ)
ans (fill m n) s = []
ans peek s = s left ∷ s right ∷ []

abbrev pub eff : Req → (Side → ℕ × ℕ) → Side → ℕ × ℕ
eff (fill m n) s left = (m, (s left).1 + n)
eff (fill m n) s right = s right
eff peek s X = s X

-- the left record after the bursts that are left, moved from the contents c
abbrev pub rest : Left → ℕ → ℕ → ℕ × ℕ → ℕ × ℕ
rest two m n c = (m, c.1 + n)
rest one m n c = (c.0, c.1 + n)

-- backwards: the bursts that are left, from the record as it is, give what all give from the record as it was
abbrev pub Mid : Req → Left → (Side → ℕ × ℕ) → (Side → ℕ × ℕ) → Type 0
Mid (fill m n) p s w = rest p m n (w left) ≡ rest two m n (s left)
Mid peek p s w = Unit {0}

-- what a system has to keep to
pub writes_dec : (r : Req) (X : Side) → Dec (Writes r X)
writes_dec (fill m n) left = yes tt
writes_dec (fill m n) right = no (λ z. z)
writes_dec peek X = no (λ z. z)

pub writes_in : (r : Req) (X : Side) → Writes r X → Sees r X
writes_in (fill m n) X y = y
writes_in peek X y = tt

pub num_kept : (r : Req) (s t : Side → ℕ × ℕ) → ((X : Side) → Sees r X → s X ≡ t X) → num r s ≡ num r t
num_kept (fill m n) s t h = ap (λ (c : ℕ × ℕ). c.0) (h left tt)
num_kept peek s t h = refl

pub ans_kept : (r : Req) (s t : Side → ℕ × ℕ) → ((X : Side) → Sees r X → s X ≡ t X) → ans r s ≡ ans r t
ans_kept (fill m n) s t h = refl
ans_kept peek s t h = ap₂ (λ (c d : ℕ × ℕ). c ∷ d ∷ []) (h left tt) (h right tt)

pub eff_kept : (r : Req) (s t : Side → ℕ × ℕ) → ((X : Side) → Sees r X → s X ≡ t X) → (X : Side) → Writes r X → eff r s X ≡ eff r t X
eff_kept (fill m n) s t h left y = ap (λ (c : ℕ × ℕ). (m, c.1 + n)) (h left tt)
eff_kept (fill m n) s t h right y = absurd y
eff_kept peek s t h X y = absurd y

pub eff_stays : (r : Req) (s : Side → ℕ × ℕ) (X : Side) → (Writes r X → ⊥) → eff r s X ≡ s X
eff_stays (fill m n) s left y = absurd (y tt)
eff_stays (fill m n) s right y = refl
eff_stays peek s X y = refl

pub mid_kept : (r : Req) (p : Left) (s t w u : Side → ℕ × ℕ) → ((X : Side) → Sees r X → s X ≡ t X) → ((X : Side) → Sees r X → w X ≡ u X)
    → Mid r p s w → Mid r p t u
mid_kept (fill m n) p s t w u h k e = ap (rest p m n) (sym (k left tt)) ∙ e ∙ ap (rest two m n) (h left tt)
mid_kept peek p s t w u h k e = tt

abbrev pub system : Sys
system = record {
  Rec = Side;
  Contents = ℕ × ℕ;
  Req = Req;
  Ans = List (ℕ × ℕ);
  Num = ℕ;
  accepted = 0;
  Prog = Left;
  start = two;
  Sees = Sees;
  Holds = Sees;
  Writes = Writes;
  writes? = writes_dec;
  writes_holds = writes_in;
  holds_sees = λ r X y. y;
  num = num;
  ans = ans;
  eff = eff;
  num_local = num_kept;
  ans_local = ans_kept;
  eff_local = eff_kept;
  eff_frame = eff_stays;
  Also = λ p q. Unit {0};
  Mid = Mid;
  mid_local = mid_kept;
}
