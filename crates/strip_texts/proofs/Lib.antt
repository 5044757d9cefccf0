mod Sources
mod WhatIsLeft
mod LinesLeft
