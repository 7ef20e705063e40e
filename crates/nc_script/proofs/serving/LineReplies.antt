-- The reply to a request is that to the line that makes it.
use Rattle.std.proofs.Common.{◌≡◌, ◌≢◌, ◌⊎◌, ◌++◌, Bool, List, ℕ, Option, Some, None, Result, OnOk, refl, sym, subst}
use Rattle.std.proofs.lemmas.Result.{on_ok_weaker}
use Rattle.nc_region.specs.Region.{Region, IsRegion}
use Rattle.nc_lines.specs.Lines.{bad_line}
use Rattle.nc_script.specs.Requests.{Request, Reclaim, request_in}
use Rattle.nc_script.specs.Reuse.{AllStay}
use Rattle.nc_script.specs.machinery.Session.{SeatsState, SessionOf, SessionState, script_of, Follows, FollowsIn, FollowsLine}
use Rattle.nc_script.proofs.serving.OnlyReply.{request_only, line_only, bad_only}

-- what was requested is the request that has the reply
module _ {T E : Type 0} (r : Result T E) (new old : List ℕ) (requested request : Request) (is : requested ≡ request) where
  -- what was requested has its reply, by the calls of a region and of its seats
  pub served : (before after : SessionState) → OnOk r ((reply : List ℕ) × (new ≡ old ++ reply) × Follows request before reply after)
      → OnOk r ((reply : List ℕ) × (new ≡ old ++ reply) × Follows requested before reply after)
  served before after h =
      subst (λ (named : Request). OnOk r ((reply : List ℕ) × (new ≡ old ++ reply) × Follows named before reply after)) (sym is) h

  -- what was requested has its reply, by the calls of a region, whatever its seats are
  pub served_in : (before after : Region) (seats : SeatsState)
      → OnOk r ((reply : List ℕ) × (new ≡ old ++ reply) × FollowsIn request before reply after)
      → OnOk r ((reply : List ℕ) × (new ≡ old ++ reply)
      × Follows requested (record { region = before; seats = seats }) reply (record { region = after; seats = seats }))
  served_in before after seats h =
      served (record { region = before; seats = seats }) (record { region = after; seats = seats })
      (on_ok_weaker r (λ reply. (reply.0, reply.1, reply.2 seats)) h)

-- a line that makes a request
pub line_follows : (queries : Bool) (request : Request) (old new : SessionState) (line reply : List ℕ)
    → IsRegion old.region.marked old.region.chunks → request_in queries line ≡ Some request → Follows request old reply new
    → FollowsLine (record { queries = queries; state = old }) line reply (record { queries = queries; state = new })
line_follows queries request old new line reply is e follows = (
  refl,
  λ seats freed fits.
      let (next, number, serves, still) = follows seats freed fits in
      let before = script_of old.region seats freed in
      let after = script_of new.region next number in (
        next,
        number,
        line_only queries request before after line reply e serves
            (λ determined. request_only request old.region seats freed reply after is
            (subst (λ (requested : Option Request). (requested ≢ Some Reclaim) ⊎ AllStay before) e determined) serves),
        still,
      ),
)

-- a bad line, which changes nothing
pub bad_line_follows : (session : SessionOf) (line : List ℕ) → request_in session.queries line ≡ None
    → FollowsLine session line bad_line session
bad_line_follows session line e =
    (refl, λ seats freed fits. (seats, freed, bad_only session.queries (script_of session.state.region seats freed) line e, fits))
