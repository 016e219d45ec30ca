-- Going on with what something comes to; and lists of which a part comes to nothing.
use Rattle.std.proofs.Common.{◌≡◌, ◌⊎◌, inl, inr, List, [], ◌∷◌, ◌++◌, Result, Ok, Err, refl, sym, subst}
use Rattle.slint_base.specs.declared.faults.Fault.{Fault}
use Rattle.fault_order.specs.Order.{IsFirst, NotBehind}
use Rattle.item_types.specs.Judging.{Judging, OneBreaks, first, behind, each, Tells, something, fault}
use Rattle.item_types.proofs.Telling.{Sound}
use Rattle.type_resolver.specs.Bodies.{followed}

module _ {X Y : Type 0} (part : Judging X) (go : X → Judging Y) (s : Sound part) where
  moved : {x z : X} {f : Fault} → z ≡ x → (go z).breaks f → (go x).breaks f
  moved {x} {z} {f} e b = let P : X → Type 0 = λ y. (go y).breaks f in subst P e b

  came_moved : {x z : X} {y : Y} → z ≡ x → (go z).comes y → (go x).comes y
  came_moved {x} {z} {y} e b = let P : X → Type 0 = λ u. (go u).comes y in subst P e b

  next_first : (x : X) (f : Fault) → part.comes x → IsFirst (go x).breaks f → (g : Fault) → (followed part go).breaks g → NotBehind f g
  next_first x f a p g (inl b) = absurd (s.apart x g a b)
  next_first x f a p g (inr (z, c, h)) = p.first g (moved (s.one z x c a) h)

  -- a part that comes to something, and what goes on from there
  pub followed_on : {x : X} {v : Result Y Fault} → part.comes x → Tells (go x) v → Tells (followed part go) v
  followed_on {x} a (something c) = something (x, a, c)
  followed_on {x} a (fault {f} p) = fault (record { has = inr (x, a, p.has); first = next_first x f a p })

  part_first : (f : Fault) → IsFirst part.breaks f → (g : Fault) → (followed part go).breaks g → NotBehind f g
  part_first f p g (inl b) = p.first g b
  part_first f p g (inr (z, c, h)) = absurd (s.apart z f c p.has)

  pub followed_broken : {f : Fault} → IsFirst part.breaks f → Tells (followed part go) (Err f)
  followed_broken {f} p = fault (record { has = inl p.has; first = part_first f p })

  one_followed : ((x : X) → Sound (go x)) → (y w : Y) → (followed part go).comes y → (followed part go).comes w → y ≡ w
  one_followed t y w (x, a, c) (z, b, d) = (t x).one y w c (came_moved (s.one z x b a) d)

  apart_followed : ((x : X) → Sound (go x)) → (y : Y) (f : Fault) → (followed part go).comes y → (followed part go).breaks f → ⊥
  apart_followed t y f (x, a, c) (inl b) = s.apart x f a b
  apart_followed t y f (x, a, c) (inr (z, b, h)) = (t x).apart y f c (moved (s.one z x b a) h)

  pub followed_sound : ((x : X) → Sound (go x)) → Sound (followed part go)
  followed_sound t = record { one = one_followed t; apart = apart_followed t }

-- ---- a list of parts, and one more that breaks no rule

left_of : {A : Type 0} {Breaks : A → Fault → Type 0} {parts : List A} {f : Fault} (a : A) → OneBreaks Breaks parts f → OneBreaks Breaks (parts ++ a ∷ []) f
left_of a (first b) = first b
left_of a (behind b) = behind (left_of a b)

alone : {A : Type 0} {Breaks : A → Fault → Type 0} {a : A} {f : Fault} → OneBreaks Breaks (a ∷ []) f → Breaks a f
alone (first b) = b
alone (behind b) = elim b [ ]

left_or : {A : Type 0} {Breaks : A → Fault → Type 0} (parts : List A) {a : A} {f : Fault} → OneBreaks Breaks (parts ++ a ∷ []) f → OneBreaks Breaks parts f ⊎ Breaks a f
left_or [] b = inr (alone b)
left_or (p ∷ parts) (first b) = inl (first b)
left_or (p ∷ parts) (behind b) = elim (left_or parts b) [ inl c ↦ inl (behind c) | inr c ↦ inr c ]

skipped_first : {A X : Type 0} (part : A → Judging X) (parts : List A) (a : A) {f : Fault} → ((g : Fault) → (part a).breaks g → ⊥) → IsFirst (each part parts).breaks f → (g : Fault) → (each part parts).breaks g ⊎ (part a).breaks g → NotBehind f g
skipped_first part parts a quiet p g (inl b) = p.first g b
skipped_first part parts a quiet p g (inr b) = absurd (quiet g b)

pub each_skipped : {A X : Type 0} (part : A → Judging X) (parts : List A) (a : A) {f : Fault} → ((g : Fault) → (part a).breaks g → ⊥) → Tells (each part parts) (Err f) → Tells (each part (parts ++ a ∷ [])) (Err f)
each_skipped part parts a quiet (fault p) = fault (record { has = left_of a p.has; first = λ g b. skipped_first part parts a quiet p g (left_or parts b) })
