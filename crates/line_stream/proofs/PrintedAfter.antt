-- Lines that print, and more after them.
use Rattle.std.proofs.Common.{◌≡◌, ℕ, ◌+◌, List, [], ◌∷◌, ◌++◌, length, refl, sym, ap, ◌∙◌, subst, arith, append_assoc, append-nil, inl, inr}
use Rattle.std.specs.Prelude.{Option, Some, Result, Ok, Err}
use Rattle.mj_model.specs.Output.{Output, BadLine}
use Rattle.line_stream.specs.declared.line_fault.LineFault.{LineFault}
use Rattle.line_stream.specs.StreamState.{AllPrint}

module _ (Reports : List ℕ → Result (List ℕ) LineFault → Type 0) where
  pub print_append : (n : ℕ) (xs ys : List (List ℕ)) (a b : List ℕ) (bad : Option (BadLine LineFault)) → AllPrint Reports n xs a
      → Output Reports (n + length xs) ys b bad → Output Reports n (xs ++ ys) (a ++ b) bad
  print_append n [] ys a b bad h out =
      subst (λ z. Output Reports n ys (z ++ b) bad) (sym h.0) (subst (λ m. Output Reports m ys b bad) {x = n + 0} {y = n} (omega arith) out)
  print_append n (x ∷ xs) ys a b bad (inl h) out = absurd (let e = h.3 in cc)
  print_append n (x ∷ xs) ys a b bad (inr h) out =
      inr (
        h.0,
        h.1 ++ b,
        h.2,
        print_append (n + 1) xs ys h.1 b bad h.3 (subst (λ m. Output Reports m ys b bad) {x = n + length (x ∷ xs)} {y = n + 1 + length xs} (omega arith) out),
        ap (λ (t : List ℕ). t ++ b) h.4 ∙ append_assoc h.0 h.1 b,
      )

  pub bad_after : (n : ℕ) (done more : List (List ℕ)) (text bad : List ℕ) (fault : LineFault) (line : ℕ) → AllPrint Reports n done text
      → Reports bad (Err fault) → line ≡ n + length done → Output Reports n (done ++ bad ∷ more) text (Some (record { number = line; fault = fault }))
  bad_after n done more text bad fault line h checked e =
      subst (λ t. Output Reports n (done ++ bad ∷ more) t (Some (record { number = line; fault = fault }))) (append-nil text)
      (print_append n done (bad ∷ more) text [] (Some (record { number = line; fault = fault })) h
      (inl (fault, checked, refl, ap (λ m. Some (record { number = m; fault = fault })) e)))

  -- one line
  pub print_one : (n : ℕ) (line text : List ℕ) → Reports line (Ok text) → AllPrint Reports n (line ∷ []) text
  print_one n line text reports = inr (text, [], reports, (refl, refl), sym (append-nil text))
