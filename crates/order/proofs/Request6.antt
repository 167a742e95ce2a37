-- Of specs/Request6.antt: what rests on its other theorems. Assumes nothing.
use Rattle.order.specs.Demand1.{demand-1}
use Rattle.order.specs.Demand2.{demand-2}
use Rattle.order.specs.Demand3.{demand-3}
use Rattle.order.specs.Request6.{Request6, catalogue-so, just-opened-so, on-the-wire-so, sharing-so}

pub request-6 : Request6
request-6 =
    record {
      catalogue = catalogue-so;
      on-the-wire = on-the-wire-so;
      sharing = sharing-so;
      just-opened = just-opened-so;
      demand1 = demand-1;
      demand2 = demand-2;
      demand3 = demand-3;
    }
