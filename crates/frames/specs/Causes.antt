-- The causes of a reject by their numbers.
use Rattle.std.specs.Prelude.{ℕ, cond, ◌==◌}
use Rattle.frames.specs.declared.downlink.Cause.{Cause}
use Rattle.frames.specs.declared.downlink.Cause.TheVariants.{ImsiUnknownInHlr, IllegalMs, IllegalMe, GprsNotAllowed, GprsAndNonGprsNotAllowed, IdentityCannotBeDerived, ImplicitlyDetached, PlmnNotAllowed, LocationAreaNotAllowed, RoamingNotAllowed, GprsNotAllowedInPlmn, NoSuitableCells, Other}

abbrev pub cause_number : Cause → ℕ
cause_number ImsiUnknownInHlr = 2
cause_number IllegalMs = 3
cause_number IllegalMe = 6
cause_number GprsNotAllowed = 7
cause_number GprsAndNonGprsNotAllowed = 8
cause_number IdentityCannotBeDerived = 9
cause_number ImplicitlyDetached = 10
cause_number PlmnNotAllowed = 11
cause_number LocationAreaNotAllowed = 12
cause_number RoamingNotAllowed = 13
cause_number GprsNotAllowedInPlmn = 14
cause_number NoSuitableCells = 15
cause_number (Other n) = n

-- the cause that an octet names
abbrev pub cause_of : ℕ → Cause
cause_of n =
    cond (n == 2) ImsiUnknownInHlr
    (cond (n == 3) IllegalMs
    (cond (n == 6) IllegalMe
    (cond (n == 7) GprsNotAllowed
    (cond (n == 8) GprsAndNonGprsNotAllowed
    (cond (n == 9) IdentityCannotBeDerived
    (cond (n == 10) ImplicitlyDetached
    (cond (n == 11) PlmnNotAllowed
    (cond (n == 12) LocationAreaNotAllowed
    (cond (n == 13) RoamingNotAllowed
    (cond (n == 14) GprsNotAllowedInPlmn
    (cond (n == 15) NoSuitableCells (Other n))))))))))))
