-- Text put into a page, one piece behind another: what the contracts and the proofs of callers cite. Assumes nothing.
use Rattle.std.specs.Prelude.{ℕ, ◌+◌, ◌≤◌, ◌≡◌, refl, List, [], ◌++◌, length, take, drop}
use Rattle.std.proofs.Common.{sym, ap, ◌∙◌, append_assoc, append-nil, arith, length-append, drop-drop, take-append-drop}
use Rattle.number.specs.Part.{front}
use Rattle.text.specs.declared.Page.{Page}

-- there is room for n bytes behind the text of p
abbrev pub HasRoom : ℕ → Page → Type 0
HasRoom n p = p.at + n ≤ length p.out.now

-- w stands behind the text of p, and that is q: the same part, no longer and no shorter, with its other bytes as they were
pub record Written (w : List ℕ) (p q : Page) : Type 0 where
  pub part : q.out.ghost_name ≡ p.out.ghost_name
  pub size : length q.out.now ≡ length p.out.now
  pub count : q.at ≡ p.at + length w
  pub text : take q.at q.out.now ≡ take p.at p.out.now ++ w
  pub rest : drop q.at q.out.now ≡ drop (length w) (drop p.at p.out.now)

module _ {w : List ℕ} {p q : Page} (a : Written w p q) where
  -- the part stays as long as it was
  pub still : length q.out.now ≡ length p.out.now
  still = a.size

  -- w ends within it
  pub fits : HasRoom (length w) p → q.at ≤ length q.out.now
  fits h = let s = a.size in let c = a.count in omega arith

  -- behind w is room for k bytes more
  pub room : (k : ℕ) → HasRoom (length w + k) p → HasRoom k q
  room k h = let s = a.size in let c = a.count in omega arith

-- then v behind w
pub then : {w v : List ℕ} {p q r : Page} → Written w p q → Written v q r → Written (w ++ v) p r
then {w} {v} {p} {q} {r} a b = record {
  part = b.part ∙ a.part;
  size = b.size ∙ a.size;
  count = let f = a.count in let g = b.count in rw (length-append w v) (omega arith);
  text = b.text ∙ ap (λ (l : List ℕ). l ++ v) a.text ∙ append_assoc (take p.at p.out.now) w v;
  rest = b.rest ∙ ap (drop (length v)) a.rest ∙ drop-drop (length v) (length w) (drop p.at p.out.now) ∙ ap (λ (n : ℕ). drop n (drop p.at p.out.now)) (sym (length-append w v));
}

-- the same text under another name
pub named : {w v : List ℕ} {p q : Page} → w ≡ v → Written w p q → Written v p q
named {w} {v} {p} {q} e a = rw e at a

-- nothing put
pub nothing : (p : Page) → Written [] p p
nothing p = record { part = refl; size = refl; count = omega arith; text = sym (append-nil (take p.at p.out.now)); rest = refl }

-- then u and v behind w
pub then_both : {w : List ℕ} (u v : List ℕ) {p q r : Page} → Written w p q → Written (u ++ v) q r → Written (w ++ u ++ v) p r
then_both {w} u v a b = named (sym (append_assoc w u v)) (then a b)

-- all that is then in the part, where the page had no text
pub filled : {w : List ℕ} {p q : Page} → p.at ≡ 0 → Written w p q → q.out.now ≡ front w p.out.now
filled {w} {p} {q} z a =
    let t : take q.at q.out.now ≡ w = a.text ∙ ap (λ (n : ℕ). take n p.out.now ++ w) z in
    let r : drop q.at q.out.now ≡ drop (length w) p.out.now = a.rest ∙ ap (λ (n : ℕ). drop (length w) (drop n p.out.now)) z in
    sym (take-append-drop q.at q.out.now) ∙ ap (λ (l : List ℕ). l ++ drop q.at q.out.now) t ∙ ap (λ (l : List ℕ). w ++ l) r

-- a text that begins with v. A record, so that a law's arguments can be read off it.
pub record Begins (text v rest : List ℕ) : Type 0 where
  pub split : text ≡ v ++ rest

-- Of the text `whole`, to be put behind p, there is `left` to come behind q.
pub record Partly (whole left : List ℕ) (p q : Page) : Type 0 where
  pub done : List ℕ
  pub parts : done ++ left ≡ whole
  pub written : Written done p q

pub nothing_yet : (whole : List ℕ) (p : Page) → Partly whole whole p p
nothing_yet whole p = record { done = []; parts = refl; written = nothing p }

module _ {whole left : List ℕ} {p q : Page} (a : Partly whole left p q) where
  within : length a.done + length left ≡ length whole
  within = sym (length-append a.done left) ∙ ap length a.parts

  -- what is put is no more than the text
  pub most : q.at ≤ p.at + length whole
  most = let e = within in let c = a.written.count in omega arith

  pub put_fits : HasRoom (length whole) p → q.at ≤ length q.out.now
  put_fits h = let e = within in fits a.written (omega arith)

  pub put_still : length q.out.now ≡ length p.out.now
  put_still = still a.written

  pub all_put : left ≡ [] → Written whole p q
  all_put e = named (sym (append-nil a.done) ∙ ap (λ (l : List ℕ). a.done ++ l) (sym e) ∙ a.parts) a.written

  module _ {v rest : List ℕ} (b : Begins left v rest) where
    -- there is room for the next piece
    pub next_room : HasRoom (length whole) p → HasRoom (length v) q
    next_room h =
        let e = within in
        let f : length left ≡ length v + length rest = ap length b.split ∙ length-append v rest in
        room a.written (length v) (omega arith)

    -- and it is put
    pub next_put : {r : Page} → Written v q r → Partly whole rest p r
    next_put w = record { done = a.done ++ v; parts = append_assoc a.done v rest ∙ ap (λ (l : List ℕ). a.done ++ l) (sym b.split) ∙ a.parts; written = then a.written w }
