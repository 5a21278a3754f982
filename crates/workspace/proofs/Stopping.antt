-- What a stop says that a call told, or that came of another refusal.
use Rattle.std.proofs.Common.{◌≡◌, ◌≢◌, ◌∙◌, sym, ap, subst}
use Rattle.workspace.specs.Outcome.{refused_work}
use Rattle.workspace.specs.Stop.{StopsWhere, TellsFault}
use Rattle.workspace.specs.declared.refusal.Refusal.{Refusal}
use Rattle.workspace.specs.declared.stop.Stop.{Stop}
use Rattle.workspace.specs.declared.stop.Stop.TheVariants as stop

-- a fault that a call ended with is told
pub told_free : {F : Type 0} (holds : Refusal → Type 0) (none : F) (told : F → Refusal) (fault : F) (why : Stop) → TellsFault none told fault why → (fault ≢ none → holds (told fault))
    → refused_work (told fault) ≡ 0 → StopsWhere holds why
told_free holds none told fault stop.NoMemory tells is free = tt
told_free holds none told fault (stop.Refused why) tells is free =
    let other : fault ≢ none = λ memory. cc (tells.memory memory) in
    let same : why ≡ told fault = cc (tells.refused other) in
    (subst holds (sym same) (is other), ap refused_work same ∙ free)

-- a refusal leads to another
pub stops_so : (P Q : Refusal → Type 0) → ((found : Refusal) → P found → Q found) → (why : Stop) → StopsWhere P why → StopsWhere Q why
stops_so P Q leads (stop.Refused why) stops = (leads why stops.0, stops.1)
stops_so P Q leads stop.NoMemory stops = tt
