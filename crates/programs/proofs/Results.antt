-- What is known of a result, whether Ok or Err.
use Rattle.std.proofs.Common.{◌≡◌, ap}
use Rattle.std.specs.Prelude.{IfErr, IfOk, OnOk, Result, Ok, Err}
use Rattle.programs.specs.declared.image_reading.ImageReadFault.{ImageReadFault}
use Rattle.programs.specs.declared.image_reading.ImageReadFault.TheVariants.{Read, Image}
use Rattle.programs.specs.declared.reading.ReadFault.{ReadFault}

pub if_ok_both : {X E : Type 0} (P Q R : X → Type 0) (outcome : Result X E) → ((x : X) → P x → Q x → R x) → IfOk outcome P → IfOk outcome Q → IfOk outcome R
if_ok_both P Q R (Ok x) both p q = both x p q
if_ok_both P Q R (Err e) both p q = tt

pub if_err_so : {X E : Type 0} (P Q : E → Type 0) (outcome : Result X E) → ((e : E) → P e → Q e) → IfErr outcome P → IfErr outcome Q
if_err_so P Q (Ok x) so p = tt
if_err_so P Q (Err e) so p = so e p

pub on_ok_so : {X E : Type 0} (P Q : Type 0) (outcome : Result X E) → (P → Q) → OnOk outcome P → OnOk outcome Q
on_ok_so P Q (Ok x) so p = so p
on_ok_so P Q (Err e) so p = tt

abbrev reported : (X : Type 0) → ReadFault → Result X ImageReadFault
reported X fault = Err (Read fault)

abbrev read_reported : {X : Type 0} → ReadFault → Result X ImageReadFault → ReadFault
read_reported otherwise (Ok x) = otherwise
read_reported otherwise (Err (Read fault)) = fault
read_reported otherwise (Err (Image fault)) = otherwise

-- results that carry an error of a read are equal only if these errors are
pub same_read : (X : Type 0) (f g : ReadFault) → reported X f ≡ reported X g → f ≡ g
same_read X f g same = ap (read_reported g) same
